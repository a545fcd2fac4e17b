use Rattle.acc_actor_laws.proofs.StoreFacts.{promise_of-kept, granted_above, recover_granted_above}
use Rattle.acc_actor_laws.proofs.laws.promises_rise.Goals as goal

pub returns : goal.returns
returns c = record { kept = promise_of-kept; granted = granted_above; recover = recover_granted_above }
