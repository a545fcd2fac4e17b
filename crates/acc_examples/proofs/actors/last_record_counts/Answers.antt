use Rattle.acc_examples.proofs.Stepped.{last_record_counts-holds}
use Rattle.acc_examples.proofs.actors.last_record_counts.Goals as goal

pub returns : goal.returns
returns c = last_record_counts-holds
