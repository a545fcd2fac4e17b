use Rattle.acc_delivered.proofs.RoundsOwn.{rounds_send_their_own}
use Rattle.acc_delivered.proofs.Seconds.{seconds_are_not_ended}
use Rattle.acc_delivered.proofs.laws.second_rounds_are_not_ended.Goals as goal

pub returns : goal.returns
returns c cluster = seconds_are_not_ended cluster (rounds_send_their_own cluster)
