-- The notes so far have entered the attempts that they tell to be ended.
use Rattle.std.proofs.Common.{◌≡◌, ◌||◌, take}
use Rattle.std.specs.List.{list_any}
use Rattle.acc_stamp.specs.declared.stamps.TxnId.{TxnId}
use Rattle.acc_stamp.specs.declared.stamps.Ballot.{Ballot}
use Rattle.acc_delivered.specs.Ends.{tells_ended}
use Rattle.acc_heal.specs.Seen.{has_attempt}
use Rattle.acc_heal.proofs.seen.enter_notes.Given as goal

abbrev pub invariant-loop-note : goal.invariant-loop-note
invariant-loop-note l =
    (x : TxnId) (b : Ballot)
    → has_attempt l.ended.keys x b ≡ (has_attempt l.fn.ended.keys x b || list_any (tells_ended x b) (take l.note-index l.notes))
