use Rattle.acc_world.proofs.Records.{waiters_more}
use Rattle.acc_world.proofs.step_laws.waiters_wait_until_opening.Goals as goal

pub returns : goal.returns
returns c = waiters_more
