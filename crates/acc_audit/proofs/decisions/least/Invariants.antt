-- The least timestamps of the lines so far are there.
use Rattle.std.proofs.Common.{◌≡◌, take, reverse, map}
use Rattle.acc_audit.specs.Kept.{least_in}
use Rattle.acc_audit.proofs.decisions.least.Given as goal

abbrev pub invariant-loop-line : goal.invariant-loop-line
invariant-loop-line l = l.least.items ≡ map (λ name. least_in name (reverse (take l.line-index l.lines))) l.numbers
