use Rattle.acc_examples.proofs.Stepped.{first_answer_counts-holds}
use Rattle.acc_examples.proofs.actors.first_answer_counts.Goals as goal

pub returns : goal.returns
returns c = first_answer_counts-holds
