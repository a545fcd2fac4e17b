use Rattle.acc_generator.proofs.PlanFacts.{document_means}
use Rattle.acc_generator.proofs.laws.generated_documents_are_accepted.Goals as goal

pub returns : goal.returns
returns c = document_means
