-- What a shelf answers to an Accept and to a Commit, and what the step makes of its transaction.
use Rattle.std.specs.Prelude.{Bool, true, false, List, Option, None, Some}
use Rattle.acc_stamp.specs.declared.stamps.Stamp.{Stamp}
use Rattle.acc_stamp.specs.declared.stamps.TxnId.{TxnId}
use Rattle.acc_stamp.specs.declared.stamps.Ballot.{Ballot}
use Rattle.acc_stamp.specs.Actor.{home_of}
use Rattle.acc_value.specs.declared.key.Key.{Key}
use Rattle.acc_txn.specs.declared.parts.BodyParts.{BodyParts}
use Rattle.acc_message.specs.declared.message.Message.{Message}
use Rattle.acc_message.specs.declared.message.Message.TheVariants.{Accept, AcceptOk, Commit, CommitOk}
use Rattle.acc_record.specs.declared.change.Change.{Change}
use Rattle.acc_record.specs.declared.change.Change.TheVariants.{Stays}
use Rattle.acc_record.specs.declared.record.Record.{Record}
use Rattle.acc_record.specs.declared.shelf.Shelf.{Shelf}
use Rattle.acc_record.specs.Changes.{changed}
use Rattle.acc_record.specs.Shelf.{record_at}
use Rattle.acc_record.specs.Learning.{deps_below, known_or_fresh}
use Rattle.acc_record.specs.Refusal.{refusal_of}

abbrev pub is_accept : Message → Bool
is_accept (Accept from to id ballot body t deps) = true
is_accept _ = false

abbrev pub is_commit : Message → Bool
is_commit (Commit from to id ballot body t deps) = true
is_commit _ = false

-- a greater promise refuses
abbrev pub refusal_at : Shelf → TxnId → Ballot → Option Message
refusal_at shelf x b = refusal_of shelf.actor x b b (record_at shelf.records x)

abbrev pub accept_ok : Shelf → TxnId → Ballot → List (Key × Bool) → Stamp → Message
accept_ok shelf x b share t = AcceptOk shelf.actor (home_of x b) x b (deps_below shelf x share t)

abbrev pub commit_ok : Shelf → TxnId → Ballot → Message
commit_ok shelf x b = CommitOk shelf.actor (home_of x b) x b

-- ---- the steps: where one is refused, the record stays

abbrev pub unless_refused : Option Message → Change → Change
unless_refused None change = change
unless_refused (Some refusal) change = Stays

-- the record of the transaction after the step
abbrev pub record_then : Option Message → Change → Shelf → TxnId → BodyParts → Record
record_then refusal change shelf x body = changed (unless_refused refusal change) (known_or_fresh (record_at shelf.records x) x body)
