-- No stamp before the present place is the one that is sought, or a lane has kept that it was found.
use Rattle.std.proofs.Common.{◌≡◌, ◌≤◌, ◌-◌, cond, length, take, map}
use Rattle.std.specs.List.{zip}
use Rattle.acc_lanes.specs.Pairs.{pair_eq}
use Rattle.acc_lanes.specs.Vectors.{greatest_number}
use Rattle.acc_lanes.proofs.scans.has.Given as goal

abbrev pub invariant-loop-at : goal.invariant-loop-at
invariant-loop-at l = record {
  in_range : l.at ≤ length l.h;
  kept : greatest_number l.found ≡ greatest_number (take l.at (map (λ s. cond (pair_eq s l.stamp) 1 0) (zip l.h l.origin)));
}

abbrev pub decreases-loop-at : goal.decreases-loop-at
decreases-loop-at l = length l.h - l.at

abbrev pub invariant-loop-place : goal.invariant-loop-place
invariant-loop-place l = 0 ≡ greatest_number (take l.place (map (λ s. cond (pair_eq s l.stamp) 1 0) (zip l.h l.origin)))
