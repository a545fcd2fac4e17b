use Rattle.std.proofs.Common.{subst}
use Rattle.acc_stamp.specs.Rising.{IsPlaceOf}
use Rattle.acc_opening.specs.Turns.{key_of}
use Rattle.acc_opening.proofs.QueueFacts.{has_kept}
use Rattle.acc_opening.proofs.queue.insert.Goals as goal

pub returns-in-Ok : goal.returns-in-Ok
returns-in-Ok c =
    let place = c.in-Ok.field-0 in
    has_kept c.args.turn c.args.queue.now place c.requires (subst (λ turns. IsPlaceOf key_of turns (key_of c.args.turn) place) c.as_slice.ensures c.in-Ok.ensures)
