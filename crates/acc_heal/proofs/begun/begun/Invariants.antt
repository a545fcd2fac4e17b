-- The items so far have entered what they begin.
use Rattle.std.proofs.Common.{◌≡◌, reverse, take}
use Rattle.acc_stamp.specs.declared.stamps.TxnId.{TxnId}
use Rattle.acc_message.specs.Items.{txn_of}
use Rattle.acc_report.specs.Known.{number_at}
use Rattle.acc_heal.proofs.begun.begun.Given as goal

abbrev pub invariant-loop-place : goal.invariant-loop-place
invariant-loop-place l = (x : TxnId) → number_at l.begun.entries x ≡ txn_of (reverse (take l.place l.items.items)) x
