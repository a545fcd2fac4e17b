use Rattle.acc_actor_laws.proofs.PhaseFacts.{first_has_zero}
use Rattle.acc_actor_laws.proofs.laws.first_phase_has_ballot_zero.Goals as goal

pub returns : goal.returns
returns c = first_has_zero
