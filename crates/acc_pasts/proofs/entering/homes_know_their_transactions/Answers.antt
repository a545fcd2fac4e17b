use Rattle.acc_pasts.proofs.SlowingFacts.{begun_at_home, has_begun, not_begun, slow_begun}
use Rattle.acc_pasts.proofs.entering.homes_know_their_transactions.Goals as goal

pub returns-clause-id : goal.returns-clause-id
returns-clause-id c = begun_at_home

pub returns-clause-begun : goal.returns-clause-begun
returns-clause-begun c = has_begun

pub returns-clause-fresh : goal.returns-clause-fresh
returns-clause-fresh c = not_begun

pub returns-clause-slow : goal.returns-clause-slow
returns-clause-slow c = slow_begun
