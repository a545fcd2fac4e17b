use Rattle.acc_examples.proofs.Stepped.{conflict_by_shard-holds}
use Rattle.acc_examples.proofs.actors.conflict_by_shard.Goals as goal

pub returns : goal.returns
returns c = conflict_by_shard-holds
