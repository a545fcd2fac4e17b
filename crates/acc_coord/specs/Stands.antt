-- What a coordinator stands for: an attempt of the protocol's rules. It keeps the attempt's ballot, body and phase, the tally of
-- the answers, and of the answers to a Stable the shards that have read and what they read.
--     StandsFor layout x coord a      the coordinator stands for this attempt at x
--     Answers, Slows      what a call does to it
use Rattle.std.specs.Prelude.{◌≡◌, ℕ, ◌<◌, Bool, true, false, List, [], ◌∷◌, Option, None, Some, is_none, not, ◌&&◌, ◌||◌}
use Rattle.std.specs.List.{list_any}
use Rattle.acc_stamp.specs.declared.stamps.TxnId.{TxnId}
use Rattle.acc_stamp.specs.declared.stamps.Ballot.{Ballot}
use Rattle.acc_stamp.specs.declared.actors.Actor.{Actor}
use Rattle.acc_stamp.specs.Actor.{home_of}
use Rattle.acc_stamp.specs.Stamp.{zero_ballot, ballot_eq}
use Rattle.acc_value.specs.declared.key.Key.{Key}
use Rattle.acc_value.specs.Cells.{cell_of}
use Rattle.acc_topology.specs.Layout.{Layout}
use Rattle.acc_topology.specs.Sets.{in_set, members}
use Rattle.acc_txn.specs.declared.parts.BodyParts.{BodyParts}
use Rattle.acc_message.specs.declared.message.Message.{Message}
use Rattle.acc_message.specs.declared.note.Note.TheVariants.{Decide}
use Rattle.acc_message.specs.declared.note.Path.TheVariants.{Fast}
use Rattle.acc_message.specs.declared.entry.Emitted.{Emitted}
use Rattle.acc_message.specs.Fields.{ballot_of, from_of}
use Rattle.acc_message.specs.Items.{same_actor}
use Rattle.acc_message.specs.Shares.{shards_used, stores_used, is_store_of}
use Rattle.acc_message.specs.Attempts.{Phase, Voting, Accepting, Committing, Executing, Attempt, plainly, counts, union_of, has_read, known_among, cell_read, fast_everywhere, majority_everywhere}
use Rattle.acc_message.specs.Coordinator.{Reaction, slow_down, is_decided, is_past_recover}
use Rattle.acc_tally.specs.declared.tally.Tally.{Tally}
use Rattle.acc_tally.specs.Stands.{StandsFor as Tallies, HasShards}
use Rattle.acc_coord.specs.declared.coord.Coord.{Coord}
use Rattle.acc_coord.specs.declared.reads.Reads.{Reads as ReadSoFar}
use Rattle.acc_coord.specs.declared.step.Stage.{Stage}
use Rattle.acc_coord.specs.declared.step.Stage.TheVariants.{Votes, Accepts, Commits, Reads}
use Rattle.acc_coord.specs.declared.step.Next.{Next}
use Rattle.acc_coord.specs.declared.step.Next.TheVariants.{Same, Stage as Moves, Ended as Ends}
use Rattle.acc_coord.specs.declared.step.Step.{Step}

-- ---- the attempt that a coordinator is at, with some answers

abbrev pub phase_in : Stage → Phase
phase_in (Votes tally) = Voting
phase_in (Accepts s tally) = Accepting s
phase_in (Commits s tally) = Committing s
phase_in (Reads s reads) = Executing s

abbrev pub attempt_at : Coord → Phase → List Message → Attempt
attempt_at c phase answers = record { ballot = c.ballot; body = c.body; phase = phase; answers = answers }

abbrev pub attempt_in : Coord → List Message → Attempt
attempt_in c answers = attempt_at c (phase_in c.stage) answers

-- the node that runs it
abbrev pub own_of : Coord → Actor
own_of c = home_of c.id c.ballot

-- it waits for votes
abbrev pub is_voting_stage : Stage → Bool
is_voting_stage (Votes tally) = true
is_voting_stage (Accepts s tally) = false
is_voting_stage (Commits s tally) = false
is_voting_stage (Reads s reads) = false

abbrev pub is_voting : Coord → Bool
is_voting c = is_voting_stage c.stage

-- it has decided, and it would take a decision over
abbrev pub has_decided_in : Coord → Bool
has_decided_in c = is_decided (phase_in c.stage)

abbrev pub may_adopt_in : Coord → Bool
may_adopt_in c = not (is_decided (phase_in c.stage)) && (is_past_recover (phase_in c.stage) || ballot_eq c.ballot zero_ballot)

abbrev pub is_voting_phase : Phase → Bool
is_voting_phase Voting = true
is_voting_phase _ = false

-- ---- what it keeps of the answers

-- the shards that have read, none of which knew the outcome, and their cells
pub record ReadsAre (layout : Layout) (reads : ReadSoFar) (answers : List Message) : Type 0 where
  pub heard : (shard : ℕ) → shard < 16 → in_set reads.heard shard ≡ has_read answers shard
  pub unknown : known_among answers ≡ None
  pub cells : (key : Key) → cell_of reads.cells key ≡ cell_read layout answers key

abbrev pub StageKeeps : Layout → TxnId → BodyParts → Stage → List Message → Type 0
StageKeeps layout x body (Votes tally) answers = Tallies tally (shards_used layout body) (plainly x answers)
StageKeeps layout x body (Accepts s tally) answers = Tallies tally (shards_used layout body) (plainly x answers)
StageKeeps layout x body (Commits s tally) answers = Tallies tally (shards_used layout body) (plainly x answers)
StageKeeps layout x body (Reads s reads) answers = ReadsAre layout reads answers

-- the stores and the shards are those of the body, and the shards exist
pub record IsPlaced (layout : Layout) (c : Coord) : Type 0 where
  pub stores : c.stores ≡ stores_used layout c.body
  pub shards : members c.shards ≡ shards_used layout c.body
  pub exist : HasShards layout (shards_used layout c.body)

pub record Keeps (layout : Layout) (c : Coord) (answers : List Message) : Type 0 where
  pub placed : IsPlaced layout c
  pub stage : StageKeeps layout c.id c.body c.stage answers

-- a coordinator of this attempt that has no vote yet
pub record IsNew (layout : Layout) (x : TxnId) (ballot : Ballot) (body : BodyParts) (c : Coord) : Type 0 where
  pub id : c.id ≡ x
  pub ballot_is : c.ballot ≡ ballot
  pub body_is : c.body ≡ body
  pub voting : is_voting c ≡ true
  pub keeps : Keeps layout c []

pub record StandsFor (layout : Layout) (x : TxnId) (c : Coord) (a : Attempt) : Type 0 where
  pub id : c.id ≡ x
  pub attempt : attempt_in c a.answers ≡ a
  pub keeps : Keeps layout c a.answers

-- ---- steps

-- what becomes of the stage is what becomes of the attempt
abbrev pub NextIs : Layout → Coord → List Message → Next → Option Attempt → Type 0
NextIs layout c answers Same next = next ≡ Some (attempt_in c answers)
NextIs layout c answers (Moves stage) next =
    (more : List Message) × (next ≡ Some (attempt_at c (phase_in stage) more)) × StageKeeps layout c.id c.body stage more
NextIs layout c answers Ends next = next ≡ None

pub record Follows (layout : Layout) (c : Coord) (answers : List Message) (step : Step) (r : Reaction) : Type 0 where
  pub emitted : step.emitted ≡ r.emitted
  pub next : NextIs layout c answers step.next r.next

-- an answer counts, and is then in the tally
abbrev pub is_first_answer : Layout → Coord → Message → List Message → Bool
is_first_answer layout c m answers =
    is_store_of layout c.body (from_of m) && not (list_any (λ earlier. same_actor (from_of earlier) (from_of m)) answers)

abbrev pub CountedIs : Layout → Coord → Message → List Message → Option Tally → Type 0
CountedIs layout c m answers None = is_first_answer layout c m answers ≡ false
CountedIs layout c m answers (Some tally) =
    (is_first_answer layout c m answers ≡ true) × Tallies tally (shards_used layout c.body) (plainly c.id (m ∷ answers))

-- the step that gives the fast path up, where a majority of each shard has voted
pub record SlowStepIs (layout : Layout) (c : Coord) (answers : List Message) (step : Step) : Type 0 where
  pub majority : majority_everywhere layout c.id c.body answers ≡ true
  pub follows : Follows layout c answers step (slow_down layout (own_of c) c.id (attempt_in c answers))

-- the coordinator after a step, and whether the attempt has ended
abbrev pub in_stage : Coord → Stage → Coord
in_stage c stage = record c { stage = stage }

abbrev pub after_step : Coord → Next → Coord
after_step c Same = c
after_step c (Moves stage) = in_stage c stage
after_step c Ends = c

abbrev pub is_end : Next → Bool
is_end Same = false
is_end (Moves stage) = false
is_end Ends = true

-- the coordinator stands for what becomes of the attempt, where it goes on
abbrev pub GoesOn : Layout → TxnId → Coord → Option Attempt → Type 0
GoesOn layout x c None = Unit {0}
GoesOn layout x c (Some a) = StandsFor layout x c a

-- what a call emits, whether the attempt has ended, and for what the coordinator stands then, are as the rules say
pub record Answers (layout : Layout) (x : TxnId) (new : Coord) (emitted : Emitted) (has_ended : Bool) (r : Reaction) : Type 0 where
  pub emits : emitted ≡ r.emitted
  pub ends : has_ended ≡ is_none r.next
  pub goes_on : GoesOn layout x new r.next

-- ---- a fast quorum

-- An attempt at ballot zero, in its first phase, and an answer that counts, with which the votes for the transaction's own
-- timestamp are a fast quorum in every shard.
pub record MakesFastQuorum (layout : Layout) (x : TxnId) (a : Attempt) (m : Message) : Type 0 where
  pub first : a.ballot ≡ zero_ballot
  pub same : ballot_of m ≡ zero_ballot
  pub voting : a.phase ≡ Voting
  pub is_counted : counts layout a m ≡ true
  pub fast : fast_everywhere layout x a.body (m ∷ a.answers) ≡ true

-- it decides the transaction's own timestamp with the dependencies of all answers, on the fast path
abbrev pub DecidesFast : TxnId → Attempt → Message → Emitted → Type 0
DecidesFast x a m emitted = emitted.notes ≡ Decide x x.0 Fast (union_of x (m ∷ a.answers)) ∷ []

-- ---- the slow path

-- a majority of each shard has answered, and the greatest vote is proposed
pub record Slows (layout : Layout) (x : TxnId) (new : Coord) (out : List Message) (a : Attempt) : Type 0 where
  pub majority : majority_everywhere layout x a.body a.answers ≡ true
  pub sends : out ≡ (slow_down layout (home_of x a.ballot) x a).emitted.out
  pub goes_on : GoesOn layout x new (slow_down layout (home_of x a.ballot) x a).next
