use Rattle.acc_free_laws.proofs.Fitting.{down_fits}
use Rattle.acc_free_laws.proofs.Over.{turn_fits}
use Rattle.acc_free_laws.proofs.laws.turns_stay_fitting.Goals as goal

pub returns-clause-entry : goal.returns-clause-entry
returns-clause-entry c = turn_fits

pub returns-clause-down : goal.returns-clause-down
returns-clause-down c = λ plan items a there free. down_fits plan items a there free
