-- These have all of the others so far.
use Rattle.std.proofs.Common.{take}
use Rattle.std.specs.List.{AllByRecursion}
use Rattle.acc_deps.proofs.Within.{IsShardWithin}
use Rattle.acc_deps.proofs.deps.Deps.has_each.Given as goal

abbrev pub invariant-loop-other : goal.invariant-loop-other
invariant-loop-other l = AllByRecursion (IsShardWithin l.self) (take l.other-index l.others)
