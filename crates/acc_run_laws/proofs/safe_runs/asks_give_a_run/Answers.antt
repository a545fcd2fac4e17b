use Rattle.acc_run_laws.proofs.AskFacts.{step_is_run, nothing_is_run, asks_are_run, drains_are_run}
use Rattle.acc_run_laws.proofs.safe_runs.asks_give_a_run.Goals as goal

pub returns : goal.returns
returns c = record { step = step_is_run; none = nothing_is_run; asks = asks_are_run; drains = drains_are_run }
