-- The ballots so far are smaller.
use Rattle.std.proofs.Common.{◌≡◌, length, take, true, ◌≤◌, ◌-◌}
use Rattle.std.specs.List.{AllByRecursion}
use Rattle.acc_stamp.specs.Stamp.{ballot_lt}
use Rattle.acc_execute.proofs.own.place_of.Given as goal

abbrev pub invariant-loop-place : goal.invariant-loop-place
invariant-loop-place l = (l.place ≤ length l.ballots) × AllByRecursion (λ b. ballot_lt b l.ballot ≡ true) (take l.place l.ballots)

abbrev pub decreases-loop-place : goal.decreases-loop-place
decreases-loop-place l = length l.ballots - l.place
