use Rattle.acc_heal_laws.proofs.Alike.{one_healing, one_strict_healing}
use Rattle.acc_heal_laws.proofs.laws.one_healing.Goals as goal

pub returns-clause-given : goal.returns-clause-given
returns-clause-given c = one_healing

pub returns-clause-strict : goal.returns-clause-strict
returns-clause-strict c = one_strict_healing
