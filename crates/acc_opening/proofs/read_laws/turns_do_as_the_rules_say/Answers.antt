use Rattle.acc_opening.proofs.RulesLaw.{release_is, written_all_is}
use Rattle.acc_opening.proofs.read_laws.turns_do_as_the_rules_say.Goals as goal

pub returns-clause-sent : goal.returns-clause-sent
returns-clause-sent c = release_is

pub returns-clause-written : goal.returns-clause-written
returns-clause-written c = written_all_is
