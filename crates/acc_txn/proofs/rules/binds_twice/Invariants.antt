-- No name so far stands twice.
use Rattle.std.proofs.Common.{◌≡◌, length}
use Rattle.acc_txn.specs.Rules.{has_name_twice}
use Rattle.acc_txn.proofs.rules.binds_twice.Given as goal

abbrev pub invariant-loop-first : goal.invariant-loop-first
invariant-loop-first l = has_name_twice l.rest ≡ has_name_twice l.lets

abbrev pub decreases-loop-first : goal.decreases-loop-first
decreases-loop-first l = length l.rest
