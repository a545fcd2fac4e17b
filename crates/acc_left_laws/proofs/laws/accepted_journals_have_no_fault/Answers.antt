use Rattle.acc_left.proofs.FaultFacts.{no_fault}
use Rattle.acc_left_laws.proofs.laws.accepted_journals_have_no_fault.Goals as goal

pub returns : goal.returns
returns c = no_fault
