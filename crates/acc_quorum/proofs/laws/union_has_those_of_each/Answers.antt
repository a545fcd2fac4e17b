use Rattle.acc_quorum.proofs.Together.{AreDeps-union_of, union_of-has}
use Rattle.acc_quorum.proofs.laws.union_has_those_of_each.Goals as goal

pub returns-clause-stands : goal.returns-clause-stands
returns-clause-stands c = AreDeps-union_of

pub returns-clause-has : goal.returns-clause-has
returns-clause-has c = union_of-has
