-- The items so far have been entered.
use Rattle.std.proofs.Common.{◌≡◌, take, reverse}
use Rattle.acc_stamp.specs.declared.stamps.TxnId.{TxnId}
use Rattle.acc_report.specs.Known.{number_at}
use Rattle.acc_report.specs.Report.{number_of}
use Rattle.acc_report.proofs.names.numbers_of.Given as goal

abbrev pub invariant-loop-place : goal.invariant-loop-place
invariant-loop-place l = (x : TxnId) → number_at l.numbers x ≡ number_of l.roll (reverse (take l.place l.items)) x
