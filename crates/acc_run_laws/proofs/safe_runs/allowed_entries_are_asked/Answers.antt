use Rattle.acc_run_laws.proofs.AskedFacts.{is_asked}
use Rattle.acc_run_laws.proofs.safe_runs.allowed_entries_are_asked.Goals as goal

pub returns : goal.returns
returns c = is_asked
