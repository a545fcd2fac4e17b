use Rattle.acc_examples.proofs.CalmTested.{calm_ones-hold, not_calm_ones-refused}
use Rattle.acc_examples.proofs.promises.calm_runs.Goals as goal

pub returns : goal.returns
returns c = record { holds = calm_ones-hold; fails = not_calm_ones-refused }
