use Rattle.std.proofs.Common.{sym, subst}
use Rattle.acc_left.specs.Leaves.{AreApart}
use Rattle.acc_left.specs.Told.{ListsBegins, TellDraws}
use Rattle.acc_left.proofs.OrderFacts.{rising_apart}
use Rattle.acc_left.proofs.RollFacts.{is_roll}
use Rattle.acc_left.proofs.begins.roll.Goals as goal

pub drawn_in-requires : goal.drawn_in-requires
drawn_in-requires c = subst AreApart (sym c.as_slice.ensures) (rising_apart c.args.images.now c.requires.rise)

pub returns-in-Ok : goal.returns-in-Ok
returns-in-Ok c =
    is_roll c.args.plan.now c.args.images.now c.in-Ok.drawn.draws c.from_vec.result
    (subst (TellDraws c.args.plan.now c.in-Ok.drawn.draws) c.as_slice.ensures c.in-Ok.ensures.1)
    (subst (ListsBegins c.in-Ok.drawn.draws) (sym c.from_vec.ensures) c.in_ok-begins-in-Ok.ensures)
