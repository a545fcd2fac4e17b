use Rattle.acc_safety_laws.proofs.Proposals.{proposals_have_roots}
use Rattle.acc_safety_laws.proofs.roots.proposals_have_roots.Goals as goal

pub returns : goal.returns
returns c = proposals_have_roots
