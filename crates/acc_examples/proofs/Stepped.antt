-- Worked examples of one store and of one node, by computation.
use Rattle.std.proofs.Common.{◌≡◌, refl}
use Rattle.std.specs.Prelude.{true, false, [], ◌∷◌, None, Some, map}
use Rattle.acc_topology.specs.Sets.{numbers}
use Rattle.acc_message.specs.Items.{id_of_note}
use Rattle.acc_message.specs.Taken.{body_known}
use Rattle.acc_message.specs.Opening.{cells_at}
use Rattle.acc_examples.specs.Clusters.{writing, x}
use Rattle.acc_examples.specs.Actors.{three, store_at, a, b, sent_by, waiting_at, emitted_by_node}
use Rattle.acc_examples.specs.AwaitedWhileCommitted as awaited_while_committed
use Rattle.acc_examples.specs.AcceptedOnceStable as accepted_once_stable
use Rattle.acc_examples.specs.VotesAtAStore as votes_at_a_store
use Rattle.acc_examples.specs.ConflictByShard as conflict_by_shard
use Rattle.acc_examples.specs.EvidenceBounds as evidence_bounds
use Rattle.acc_examples.specs.ClosedClients as closed_clients
use Rattle.acc_examples.specs.OpenedInTurn as opened_in_turn
use Rattle.acc_examples.specs.LastRecordCounts as last_record_counts
use Rattle.acc_examples.specs.FirstAnswerCounts as first_answer_counts
use Rattle.acc_examples.specs.CommitRound as commit_round
use Rattle.acc_examples.specs.DrawsOverRestarts as draws_over_restarts
use Rattle.acc_examples.specs.ChangedVoteMayBeFast as changed_vote_may_be_fast
use Rattle.acc_examples.specs.RecordAdopted as record_adopted
use Rattle.acc_examples.specs.SmallerElectorate as smaller_electorate
use Rattle.acc_examples.specs.FirstBodyCounts as first_body_counts
use Rattle.acc_examples.specs.NotesNamed as notes_named
use Rattle.acc_examples.specs.PromisesHeld as promises_held
use Rattle.acc_examples.specs.StrangersIgnored as strangers_ignored
use Rattle.acc_examples.specs.WritesByShard as writes_by_shard
use Rattle.acc_examples.specs.LostAndDown.{marked_well, marked_badly, fits, down_well, down_badly, end_well, numbered, message_of, taken, took_both}

pub awaited_while_committed-holds : sent_by three (store_at 1) awaited_while_committed.messages ≡ awaited_while_committed.answers
unfolding numbers
awaited_while_committed-holds = refl

pub accepted_once_stable-holds : sent_by three (store_at 1) accepted_once_stable.messages ≡ accepted_once_stable.answers
unfolding numbers
accepted_once_stable-holds = refl

pub opened_in_turn-holds : sent_by three (store_at 1) opened_in_turn.messages ≡ opened_in_turn.answers
unfolding numbers
opened_in_turn-holds = refl

pub opened_in_turn-waiting : waiting_at three (store_at 1) b opened_in_turn.messages ≡ opened_in_turn.waiting
unfolding numbers
opened_in_turn-waiting = refl

pub last_record_counts-holds : sent_by three (store_at 1) last_record_counts.messages ≡ last_record_counts.answers
unfolding numbers
last_record_counts-holds = refl

pub first_answer_counts-holds : emitted_by_node three 1 first_answer_counts.acts ≡ first_answer_counts.emitted
unfolding numbers
first_answer_counts-holds = refl

pub commit_round-holds : emitted_by_node three 1 commit_round.acts ≡ commit_round.emitted
unfolding numbers
commit_round-holds = refl

pub draws_over_restarts-holds : emitted_by_node three 1 draws_over_restarts.acts ≡ draws_over_restarts.emitted
unfolding numbers
draws_over_restarts-holds = refl

pub record_adopted-holds : emitted_by_node three 3 record_adopted.acts ≡ record_adopted.emitted
unfolding numbers
record_adopted-holds = refl

pub lost_and_down-marked : fits marked_well ≡ true ∷ true ∷ true ∷ true ∷ true ∷ true ∷ []
lost_and_down-marked = refl

pub lost_and_down-marks_refused : fits marked_badly ≡ false ∷ false ∷ false ∷ false ∷ false ∷ false ∷ false ∷ false ∷ []
lost_and_down-marks_refused = refl

pub lost_and_down-down : end_well down_well ≡ true ∷ true ∷ true ∷ true ∷ []
lost_and_down-down = refl

pub lost_and_down-downs_refused : end_well down_badly ≡ false ∷ false ∷ false ∷ false ∷ []
lost_and_down-downs_refused = refl

pub lost_and_down-taken : taken ≡ took_both
lost_and_down-taken = refl

pub lost_and_down-numbers : numbered ≡ Some (message_of 1) ∷ Some (message_of 2) ∷ Some (message_of 3) ∷ None ∷ []
lost_and_down-numbers = refl

pub votes_at_a_store-holds : sent_by three (store_at 1) votes_at_a_store.messages ≡ votes_at_a_store.answers
unfolding numbers
votes_at_a_store-holds = refl

pub conflict_by_shard-holds : sent_by conflict_by_shard.two_shards conflict_by_shard.own conflict_by_shard.messages ≡ conflict_by_shard.answers
unfolding numbers
conflict_by_shard-holds = refl

pub changed_vote_may_be_fast-holds : emitted_by_node changed_vote_may_be_fast.five 3 changed_vote_may_be_fast.acts ≡ changed_vote_may_be_fast.emitted
unfolding numbers
changed_vote_may_be_fast-holds = refl

pub evidence_bounds-holds : sent_by three (store_at 1) evidence_bounds.messages ≡ evidence_bounds.answers
unfolding numbers
evidence_bounds-holds = refl

pub closed_clients-holds : emitted_by_node conflict_by_shard.two_shards 1 closed_clients.acts ≡ closed_clients.emitted
unfolding numbers
closed_clients-holds = refl

pub first_body_counts-answers : sent_by three (store_at 1) first_body_counts.messages ≡ first_body_counts.answers
unfolding numbers
first_body_counts-answers = refl

pub first_body_counts-known : body_known first_body_counts.behind_two a ≡ Some (writing x 1)
unfolding numbers
first_body_counts-known = refl

pub first_body_counts-unknown : body_known first_body_counts.behind_two b ≡ None
unfolding numbers
first_body_counts-unknown = refl

pub smaller_electorate-holds : emitted_by_node smaller_electorate.two_of_three 1 smaller_electorate.acts ≡ smaller_electorate.emitted
unfolding numbers
smaller_electorate-holds = refl

pub notes_named-holds : map id_of_note notes_named.notes ≡ notes_named.ids
notes_named-holds = refl

pub writes_by_shard-holds : map (cells_at conflict_by_shard.two_shards 2 writes_by_shard.past) writes_by_shard.keys ≡ writes_by_shard.cells
unfolding numbers
writes_by_shard-holds = refl

pub strangers_ignored-holds : emitted_by_node conflict_by_shard.two_shards 1 strangers_ignored.acts ≡ strangers_ignored.emitted
unfolding numbers
strangers_ignored-holds = refl

pub promises_held-holds : sent_by three (store_at 1) promises_held.messages ≡ promises_held.answers
unfolding numbers
promises_held-holds = refl
