use Rattle.acc_left_laws.proofs.Leaving.{items_leave}
use Rattle.acc_left_laws.proofs.laws.leave_leaves.Goals as goal

pub returns : goal.returns
returns c = λ plan s keeps is numbers sound few down none. items_leave c.messages_have_numbers_alone.ensures plan is numbers s sound few keeps none down
