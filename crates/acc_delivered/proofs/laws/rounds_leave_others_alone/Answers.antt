use Rattle.acc_delivered.proofs.RoundsOwn.{rounds_send_their_own}
use Rattle.acc_delivered.proofs.OthersAlone.{rounds_start_one, rounds_leave_others_alone}
use Rattle.acc_delivered.proofs.laws.rounds_leave_others_alone.Goals as goal

pub returns-clause-sent : goal.returns-clause-sent
returns-clause-sent c = rounds_send_their_own

pub returns-clause-started : goal.returns-clause-started
returns-clause-started c = rounds_start_one

pub returns-clause-over : goal.returns-clause-over
returns-clause-over c cluster = rounds_leave_others_alone cluster (rounds_send_their_own cluster)
