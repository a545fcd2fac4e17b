-- Each seat has its chair.
use Rattle.acc_tape_tables.specs.Halls.{IsHall}
use Rattle.acc_tape_tables.proofs.threads.opened.Given as goal

abbrev pub invariant-loop-actor : goal.invariant-loop-actor
invariant-loop-actor g l = IsHall l.hall
