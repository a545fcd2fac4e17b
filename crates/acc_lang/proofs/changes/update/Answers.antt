use Rattle.acc_lang.proofs.Taking.{on_ok}
use Rattle.acc_lang.proofs.changes.update.Goals as goal

pub returns-then-sets-clause-room : goal.returns-then-sets-clause-room
returns-then-sets-clause-room c = on_ok c.assignment.result c.in_ok-sets.ensures.room

pub returns-else-sets-clause-room : goal.returns-else-sets-clause-room
returns-else-sets-clause-room c = on_ok c.removal.result c.in_ok-sets.ensures.room
