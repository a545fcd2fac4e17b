use Rattle.acc_execute.proofs.Joined.{sends, writes}
use Rattle.acc_execute.proofs.laws.plans_send_as_the_rules_say.Goals as goal

pub returns-clause-sent : goal.returns-clause-sent
returns-clause-sent c = sends

pub returns-clause-cells : goal.returns-clause-cells
returns-clause-cells c = writes
