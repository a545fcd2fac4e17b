use Rattle.acc_left_laws.proofs.BytesLeft.{left_are_bytes}
use Rattle.acc_left_laws.proofs.joining.journals_left_are_bytes.Goals as goal

pub returns : goal.returns
returns c = λ plan items is numbers run few. left_are_bytes plan (c.plans_are_valid.ensures plan is) (c.plans_have_few_bodies.ensures plan is) numbers items run few
