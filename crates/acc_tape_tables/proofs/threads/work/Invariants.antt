-- The chair stays at the tape.
use Rattle.acc_tape_tables.specs.Halls.{IsChair}
use Rattle.acc_tape_tables.proofs.threads.work.Given as goal

abbrev pub invariant-loop-number : goal.invariant-loop-number
invariant-loop-number g l = IsChair l.fn.tape l.chair
