-- The greatest h of the chosen stamps before the present place.
use Rattle.std.proofs.Common.{◌≡◌, ◌≤◌, ◌-◌, length, take}
use Rattle.acc_lanes.specs.Vectors.{greatest_number, heights_chosen}
use Rattle.acc_lanes.proofs.chosen.greatest_height.Given as goal

abbrev pub invariant-loop-at : goal.invariant-loop-at
invariant-loop-at l = record {
  in_range : l.at ≤ length l.h;
  kept : greatest_number l.best ≡ greatest_number (take l.at (heights_chosen l.mask l.h));
}

abbrev pub decreases-loop-at : goal.decreases-loop-at
decreases-loop-at l = length l.h - l.at

abbrev pub invariant-loop-place : goal.invariant-loop-place
invariant-loop-place l = l.greatest ≡ greatest_number (take l.place (heights_chosen l.mask l.h))
