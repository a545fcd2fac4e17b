use Rattle.acc_left_laws.proofs.Accepted.{actors_stand}
use Rattle.acc_left_laws.proofs.laws.reopened_actors_stand.Goals as goal

pub returns : goal.returns
returns c = actors_stand
