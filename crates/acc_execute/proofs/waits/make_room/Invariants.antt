-- What was looked at fits, and the rest is to come.
use Rattle.std.proofs.Common.{◌≡◌}
use Rattle.acc_stamp.specs.declared.stamps.TxnId.{TxnId}
use Rattle.acc_record.specs.Shelf.{watchers}
use Rattle.acc_execute.proofs.Lists.{FitBut}
use Rattle.acc_execute.proofs.waits.make_room.Given as goal

abbrev pub invariant-loop-id : goal.invariant-loop-id
invariant-loop-id l =
    ((y : TxnId) → watchers l.waits y ≡ watchers l.initial.waits y) × FitBut l.touched l.id-iterator l.waits
