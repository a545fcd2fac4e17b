use Rattle.acc_actor_laws.proofs.TakenAlone.{taken_alone}
use Rattle.acc_actor_laws.proofs.laws.taken_messages_decide.Goals as goal

pub returns : goal.returns
returns c = taken_alone
