-- The greatest of the lanes so far.
use Rattle.std.proofs.Common.{◌≡◌, take}
use Rattle.acc_lanes.specs.Vectors.{greatest_number}
use Rattle.acc_lanes.proofs.vectors.greatest_lane.Given as goal

abbrev pub invariant-loop-lane : goal.invariant-loop-lane
invariant-loop-lane l = l.greatest ≡ greatest_number (take l.lane-index l.lane-items)
