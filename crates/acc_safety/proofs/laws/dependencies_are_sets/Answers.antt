use Rattle.acc_safety.proofs.SetsNamed.{deps_are_sets}
use Rattle.acc_safety.proofs.laws.dependencies_are_sets.Goals as goal

pub returns : goal.returns
returns c = deps_are_sets
