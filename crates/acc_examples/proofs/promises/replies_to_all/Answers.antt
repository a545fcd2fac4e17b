use Rattle.acc_examples.proofs.CalmTested.{answered_ones-hold, unanswered_ones-refused}
use Rattle.acc_examples.proofs.promises.replies_to_all.Goals as goal

pub returns : goal.returns
returns c = record { holds = answered_ones-hold; fails = unanswered_ones-refused }
