-- The notes so far have entered the transaction under the ids that they begin.
use Rattle.std.proofs.Common.{◌≡◌, cond, take, Some, None}
use Rattle.std.specs.List.{list_any}
use Rattle.acc_base.specs.Faults.{or_else}
use Rattle.acc_stamp.specs.declared.stamps.TxnId.{TxnId}
use Rattle.acc_message.specs.Items.{begins}
use Rattle.acc_report.specs.Known.{number_at}
use Rattle.acc_glance.proofs.begun.enter_notes.Given as goal

abbrev pub invariant-loop-note : goal.invariant-loop-note
invariant-loop-note l =
    (x : TxnId) → number_at l.begun.entries x ≡ or_else (number_at l.fn.begun.entries x) (cond (list_any (begins x) (take l.note-index l.notes)) (Some l.txn) None)
