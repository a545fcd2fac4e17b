use Rattle.std.proofs.Common.{is_some, sym, ap}
use Rattle.acc_world.proofs.Kept.{comes_back}
use Rattle.acc_world.proofs.keeping.restart.Goals as goal

pub returns-in-Some : goal.returns-in-Some
returns-in-Some c cluster items all =
    comes_back cluster items c.args.actors.now (c.get_mut.follows.lender c.restart.new.self) c.args.actor c.in-Some.held.now c.restart.new.self (sym c.in-Some.ensures.value)
    ((c.get_mut.follows.holds c.restart.new.self).3 (sym (ap is_some c.in-Some.ensures.value))).0 c.restart.ensures all
