-- There are as many places as counted.
use Rattle.std.proofs.Common.{◌≡◌}
use Rattle.std.specs.Prelude.{replicate, None}
use Rattle.acc_audit.proofs.outcomes.Outcomes.new.Given as goal

abbrev pub invariant-loop : goal.invariant-loop
invariant-loop l = l.first.items ≡ replicate l.counter None
