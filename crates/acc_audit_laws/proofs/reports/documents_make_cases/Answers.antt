use Rattle.acc_audit_laws.proofs.MadeCases.{made_case}
use Rattle.acc_audit_laws.proofs.reports.documents_make_cases.Goals as goal

pub returns : goal.returns
returns c = made_case
