use Rattle.acc_world.proofs.Records.{opened_more, applied_more}
use Rattle.acc_world.proofs.step_laws.opened_and_applied_grow.Goals as goal

pub returns : goal.returns
returns c = record { opened = opened_more; applied = applied_more }
