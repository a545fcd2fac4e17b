use Rattle.acc_left_laws.proofs.ReopenedFacts.{goes_on}
use Rattle.acc_left_laws.proofs.laws.left_runs_go_on.Goals as goal

pub returns : goal.returns
returns c = goes_on
