use Rattle.acc_lang.proofs.Taking.{on_ok}
use Rattle.acc_lang.proofs.lets.one_let.Goals as goal

pub returns-clause-room : goal.returns-clause-room
returns-clause-room c = on_ok c.binding.result c.in_ok-take_first.ensures.room
