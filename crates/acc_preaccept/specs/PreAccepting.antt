-- What a shelf answers to a PreAccept, and what the step makes of its transaction.
use Rattle.std.specs.Prelude.{ℕ, max, Bool, true, false, List, Option, None, Some}
use Rattle.acc_stamp.specs.declared.stamps.Stamp.{Stamp}
use Rattle.acc_stamp.specs.declared.stamps.TxnId.{TxnId}
use Rattle.acc_stamp.specs.declared.stamps.Ballot.{Ballot}
use Rattle.acc_stamp.specs.declared.actors.Actor.{Actor}
use Rattle.acc_stamp.specs.Actor.{home_of}
use Rattle.acc_stamp.specs.Stamp.{zero_ballot}
use Rattle.acc_value.specs.declared.key.Key.{Key}
use Rattle.acc_txn.specs.declared.parts.BodyParts.{BodyParts}
use Rattle.acc_message.specs.declared.message.Message.{Message}
use Rattle.acc_message.specs.declared.message.Message.TheVariants.{PreAccept, PreAcceptOk}
use Rattle.acc_message.specs.VoteRule.{drawn_as}
use Rattle.acc_record.specs.declared.change.Change.{Change}
use Rattle.acc_record.specs.declared.change.Change.TheVariants.{Stays, Votes}
use Rattle.acc_record.specs.declared.shelf.Shelf.{Shelf}
use Rattle.acc_record.specs.declared.vote.Vote.{Vote}
use Rattle.acc_record.specs.Shelf.{record_at}
use Rattle.acc_record.specs.Changes.{changed}
use Rattle.acc_record.specs.Learning.{vote_at, known_or_fresh}
use Rattle.acc_record.specs.LearntAs.{IsLearntAs}
use Rattle.acc_record.specs.Refusal.{refusal_of, refusal_or}

abbrev pub is_preaccept : Message → Bool
is_preaccept (PreAccept from to id ballot body) = true
is_preaccept _ = false

abbrev pub refusal_at : Shelf → TxnId → Ballot → Option Message
refusal_at shelf x b = refusal_of shelf.actor x b zero_ballot (record_at shelf.records x)

abbrev pub voted_as : Actor → TxnId → Ballot → Vote → Message
voted_as own x b v = PreAcceptOk own (home_of x b) x b v.stamp v.deps

-- the vote, unless it is refused
abbrev pub answer_at : Shelf → TxnId → Ballot → List (Key × Bool) → ℕ → Message
answer_at shelf x b share top = refusal_or (refusal_at shelf x b) (voted_as shelf.actor x b (vote_at shelf x share top))

-- ---- the step: where it is refused, no vote is learnt

abbrev pub change_then : Option Message → Vote → Change
change_then None v = Votes v
change_then (Some refusal) v = Stays

abbrev pub stamp_then : Option Message → Vote → Option Stamp
stamp_then None v = Some v.stamp
stamp_then (Some refusal) v = None

abbrev pub top_then : Option Message → Actor → Vote → ℕ → ℕ
top_then None own v top = max top (drawn_as own.0 v.stamp)
top_then (Some refusal) own v top = top

abbrev pub IsPreAcceptingBy : Option Message → Shelf → Shelf → TxnId → BodyParts → List (Key × Bool) → ℕ → Type 0
IsPreAcceptingBy refusal old new x body share top =
    let v : Vote = vote_at old x share top in
    IsLearntAs old new x share (stamp_then refusal v) (top_then refusal old.actor v top) (changed (change_then refusal v) (known_or_fresh (record_at old.records x) x body))

abbrev pub IsPreAccepting : Shelf → Shelf → TxnId → Ballot → BodyParts → List (Key × Bool) → ℕ → Type 0
IsPreAccepting old new x b body share top = IsPreAcceptingBy (refusal_at old x b) old new x body share top
