-- The journals before this place have their gates.
use Rattle.std.proofs.Common.{◌≡◌, ◌++◌, map, take, drop}
use Rattle.acc_left.specs.Kept.{closed}
use Rattle.acc_left.proofs.images.close.Given as goal

abbrev pub invariant-loop-image : goal.invariant-loop-image
invariant-loop-image l = l.images ≡ map closed (take l.image-index l.initial.images) ++ drop l.image-index l.initial.images
