use Rattle.acc_run_laws.proofs.LostFacts.{skip_is_run, down_is_run, restart_is_run}
use Rattle.acc_run_laws.proofs.safe_runs.runs_go_on.Goals as goal

pub returns : goal.returns
returns c = record { skip = skip_is_run; down = down_is_run; restart = restart_is_run }
