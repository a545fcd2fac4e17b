-- Messages by their numbers.
use Rattle.acc_run_laws.proofs.ReceiverFacts.{routed, goes_to_actor, comes_from_actor}
use Rattle.acc_run_laws.proofs.receivers.messages_go_to_actors.Goals as goal

pub returns-clause-to : goal.returns-clause-to
returns-clause-to c = goes_to_actor

pub returns-clause-from : goal.returns-clause-from
returns-clause-from c = comes_from_actor

pub returns-clause-asked : goal.returns-clause-asked
returns-clause-asked c = λ cluster items number m standing found. (routed cluster items number m standing found).asked
