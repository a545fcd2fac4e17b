use Rattle.acc_deps.proofs.Adopted.{stable_is_shown, claim_is_shown, claim_is_greatest}
use Rattle.acc_deps.proofs.laws.adopted_is_answered.Goals as goal

pub returns-clause-stable : goal.returns-clause-stable
returns-clause-stable c = stable_is_shown

pub returns-clause-claim : goal.returns-clause-claim
returns-clause-claim c = claim_is_shown

pub returns-clause-greatest : goal.returns-clause-greatest
returns-clause-greatest c = claim_is_greatest
