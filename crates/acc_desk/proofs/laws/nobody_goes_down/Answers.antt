use Rattle.acc_desk.proofs.Closed.{nobody}
use Rattle.acc_desk.proofs.laws.nobody_goes_down.Goals as goal

pub returns : goal.returns
returns c = λ plan items free up. nobody plan.topology items free.known up
