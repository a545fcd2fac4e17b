use Rattle.acc_safety_laws.proofs.Drawn.{votes_differ}
use Rattle.acc_safety_laws.proofs.store_facts.votes_differ.Goals as goal

pub returns : goal.returns
returns c = λ layout own history each x y v w. votes_differ layout own x y v w history each
