use Rattle.acc_deps.proofs.ByShard.{AreDeps-union, deps_has-union}
use Rattle.acc_deps.proofs.laws.union_has_both.Goals as goal

pub returns-clause-stands : goal.returns-clause-stands
returns-clause-stands c = AreDeps-union

pub returns-clause-has : goal.returns-clause-has
returns-clause-has c = deps_has-union
