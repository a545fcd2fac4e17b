use Rattle.acc_examples.proofs.Stepped.{smaller_electorate-holds}
use Rattle.acc_examples.proofs.actors.smaller_electorate.Goals as goal

pub returns : goal.returns
returns c = smaller_electorate-holds
