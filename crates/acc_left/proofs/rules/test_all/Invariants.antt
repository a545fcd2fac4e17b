-- The journals of stores before this place keep the rules.
use Rattle.std.proofs.Common.{take}
use Rattle.acc_left.specs.Rules.{StoresAreLeft}
use Rattle.acc_left.proofs.rules.test_all.Given as goal

abbrev pub invariant-loop-image : goal.invariant-loop-image
invariant-loop-image l = StoresAreLeft l.plan l.images (take l.image-index l.images)
