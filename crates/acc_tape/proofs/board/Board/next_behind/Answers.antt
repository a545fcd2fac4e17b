use Rattle.std.proofs.Common.{ap}
use Rattle.acc_tape.specs.Messages.{behind_last}
use Rattle.acc_tape.proofs.board.Board.next_behind.Goals as goal

pub returns-in-None-clause-next : goal.returns-in-None-clause-next
returns-in-None-clause-next g c = rw (ap behind_last c.in-None.is) c.next_for.ensures.next

pub returns-in-Some-clause-next : goal.returns-in-Some-clause-next
returns-in-Some-clause-next g c = rw (ap behind_last c.in-Some.is) c.next_after.ensures.next
