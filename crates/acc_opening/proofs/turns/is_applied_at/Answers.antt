use Rattle.acc_opening.proofs.TurnFacts.{applied-place, applied-gap}
use Rattle.acc_opening.proofs.turns.is_applied_at.Goals as goal

pub returns-in-Ok : goal.returns-in-Ok
returns-in-Ok c = applied-place c.args.t c.args.id c.args.turns.now c.in-Ok.place _ c.requires c.in-Ok.ensures.in_range (c.in-Ok.ensures.at _)

pub returns-in-Err : goal.returns-in-Err
returns-in-Err c = applied-gap c.args.t c.args.id c.args.turns.now c.in-Err.field-0 c.in-Err.ensures
