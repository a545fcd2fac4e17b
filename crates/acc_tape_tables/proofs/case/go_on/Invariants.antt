-- Each seat has its chair.
use Rattle.acc_tape_tables.specs.Halls.{IsHall}
use Rattle.acc_tape_tables.proofs.case.go_on.Given as goal

abbrev pub invariant-loop-step : goal.invariant-loop-step
invariant-loop-step g l = IsHall l.hall
