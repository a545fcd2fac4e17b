use Rattle.acc_safety_laws.proofs.Last.{accepted_last}
use Rattle.acc_safety_laws.proofs.attempt_facts.accepted_values_last.Goals as goal

pub returns : goal.returns
returns c = accepted_last c.records_are_seen.ensures.accepted
