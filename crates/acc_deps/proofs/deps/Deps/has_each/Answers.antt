use Rattle.std.proofs.Common.{subst}
use Rattle.std.specs.List.{AllByRecursion}
use Rattle.std.proofs.lemmas.List.{take_all}
use Rattle.acc_deps.proofs.Within.{IsShardWithin, within}
use Rattle.acc_deps.proofs.deps.Deps.has_each.Goals as goal

pub returns : goal.returns
returns c = λ _. within c.args.others.now c.args.self.now
    (subst (AllByRecursion (IsShardWithin c.args.self.now)) (take_all _ c.args.others.now c.loop-other-test.false) c.loop-other.invariant)
