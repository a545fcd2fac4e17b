use Rattle.acc_safety_laws.proofs.Decisions.{decisions_have_roots, records_have_roots}
use Rattle.acc_safety_laws.proofs.roots.decisions_have_roots.Goals as goal

pub returns : goal.returns
returns c = record { decisions = decisions_have_roots; records = records_have_roots }
