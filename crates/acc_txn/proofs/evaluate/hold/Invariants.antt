-- All conditions hold where those that are left do.
use Rattle.std.proofs.Common.{◌≡◌, drop}
use Rattle.acc_txn.specs.Meaning.{all_hold}
use Rattle.acc_txn.proofs.evaluate.hold.Given as goal

abbrev pub invariant-loop-guard : goal.invariant-loop-guard
invariant-loop-guard l = all_hold l.bound (drop l.guard-index l.guards) ≡ all_hold l.bound l.guards
