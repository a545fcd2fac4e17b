use Rattle.acc_world.proofs.Records.{known_more}
use Rattle.acc_world.proofs.step_laws.known_grows.Goals as goal

pub returns : goal.returns
returns c = known_more
