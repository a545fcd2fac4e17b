use Rattle.acc_calm.proofs.CalmRuns.{calm_runs_are_answered}
use Rattle.acc_calm.proofs.laws.calm.Goals as goal

pub returns : goal.returns
returns c = calm_runs_are_answered
