use Rattle.acc_left_laws.proofs.SaidJournals.{said_once}
use Rattle.acc_left_laws.proofs.joining.journals_are_said_once.Goals as goal

pub returns : goal.returns
returns c = said_once
