use Rattle.acc_safety_laws.proofs.Commits.{commits_have_roots}
use Rattle.acc_safety_laws.proofs.roots.commits_have_roots.Goals as goal

pub returns : goal.returns
returns c = commits_have_roots
