-- The entries so far are there.
use Rattle.std.proofs.Common.{◌≡◌, take}
use Rattle.acc_stamp.specs.declared.stamps.TxnId.{TxnId}
use Rattle.acc_report.specs.Known.{number_at}
use Rattle.acc_report.specs.Report.{number_in}
use Rattle.acc_report.proofs.names.numbers_in.Given as goal

abbrev pub invariant-loop-entry : goal.invariant-loop-entry
invariant-loop-entry l = (x : TxnId) → number_at l.numbers x ≡ number_in (take l.entry-index l.entry-items) x
