use Rattle.acc_payloads.proofs.Acts as acts
use Rattle.acc_payloads.proofs.laws.draws_tell.Goals as goal

pub returns : goal.returns
returns c = record { told = acts.draws_tell; next = acts.next_may }
