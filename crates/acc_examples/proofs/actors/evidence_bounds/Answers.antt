use Rattle.acc_examples.proofs.Stepped.{evidence_bounds-holds}
use Rattle.acc_examples.proofs.actors.evidence_bounds.Goals as goal

pub returns : goal.returns
returns c = evidence_bounds-holds
