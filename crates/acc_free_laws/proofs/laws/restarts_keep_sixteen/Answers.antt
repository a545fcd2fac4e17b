use Rattle.acc_free_laws.proofs.laws.restarts_keep_sixteen.Goals as goal

pub returns : goal.returns
returns c = λ plan items free. free.kept
