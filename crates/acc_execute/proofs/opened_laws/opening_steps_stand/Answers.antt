use Rattle.acc_execute.proofs.OpeningSteps.{opening_stands}
use Rattle.acc_execute.proofs.opened_laws.opening_steps_stand.Goals as goal

pub returns : goal.returns
returns c layout old new messages m changes opening stands planned cells q = opening_stands layout old new messages m changes opening stands planned q cells
