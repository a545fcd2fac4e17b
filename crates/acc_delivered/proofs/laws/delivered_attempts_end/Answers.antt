use Rattle.acc_delivered.proofs.DeliveredEnds.{attempts_end, opened_attempts_finish, opened_attempts_reply}
use Rattle.acc_delivered.proofs.laws.delivered_attempts_end.Goals as goal

pub returns-clause-ended : goal.returns-clause-ended
returns-clause-ended c = attempts_end

pub returns-clause-finished : goal.returns-clause-finished
returns-clause-finished c = opened_attempts_finish

pub returns-clause-replied : goal.returns-clause-replied
returns-clause-replied c = opened_attempts_reply
