use Rattle.acc_safety_laws.proofs.Late.{late_votes_above}
use Rattle.acc_safety_laws.proofs.store_facts.late_votes_are_above.Goals as goal

pub returns : goal.returns
returns c = λ layout own history each step past x y body theirs s v. late_votes_above layout own step past history x y body theirs s v each
