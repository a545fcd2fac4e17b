use Rattle.acc_examples.proofs.Stepped.{writes_by_shard-holds}
use Rattle.acc_examples.proofs.actors.writes_by_shard.Goals as goal

pub returns : goal.returns
returns c = writes_by_shard-holds
