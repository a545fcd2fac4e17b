use Rattle.acc_run_laws.proofs.Everywhere.{are_low, next_low}
use Rattle.acc_run_laws.proofs.bounds.heights_rise_by_one.Goals as goal

pub returns-clause-run : goal.returns-clause-run
returns-clause-run c = are_low

pub returns-clause-next : goal.returns-clause-next
returns-clause-next c = next_low
