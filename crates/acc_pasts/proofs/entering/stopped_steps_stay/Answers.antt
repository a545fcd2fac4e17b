use Rattle.acc_pasts.proofs.Stops.{same_step, stay_same, same_by_deeds}
use Rattle.acc_pasts.proofs.entering.stopped_steps_stay.Goals as goal

pub returns-clause-one : goal.returns-clause-one
returns-clause-one c = same_step

pub returns-clause-all : goal.returns-clause-all
returns-clause-all c = stay_same

pub returns-clause-alike : goal.returns-clause-alike
returns-clause-alike c = same_by_deeds
