use Rattle.acc_left_laws.proofs.SaidJournals.{said_of_actors}
use Rattle.acc_left_laws.proofs.joining.journals_said_are_of_actors.Goals as goal

pub returns : goal.returns
returns c = said_of_actors
