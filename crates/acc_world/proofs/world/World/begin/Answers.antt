use Rattle.std.proofs.Common.{true, false, refl}
use Rattle.acc_message.specs.declared.entry.Event.TheVariants.{Begin as BeginEvent}
use Rattle.acc_message.specs.NodeRules.{Begins}
use Rattle.acc_run_laws.specs.declared.ask.Ask.TheVariants.{Begin}
use Rattle.acc_world.specs.Held.{past_of}
use Rattle.acc_world.proofs.Asks.{begun_told, begins, begun_skip, begun_goes, answered}
use Rattle.acc_world.proofs.world.World.begin.Goals as goal

pub returns-then-is_begun-clause-skip : goal.returns-then-is_begun-clause-skip
returns-then-is_begun-clause-skip c items s = begun_skip c.args.self.now items c.args.txn (begun_told items c.args.txn true (c.if-is_begun.ensures (past_of items) s.stands.past))

pub enter-requires : goal.enter-requires
enter-requires c =
    let items = c.requires.items in
    let s = c.requires.asked in
    record {
      items = items;
      act = Begins c.args.txn s.known.body;
      tried = (begins c.args.self.now items c.args.txn s (begun_told items c.args.txn false (c.if-is_begun.ensures (past_of items) s.stands.past)) c.in-Some.home c.in-Some.ensures).1;
    }

pub returns-in-Ok-clause-ok : goal.returns-in-Ok-clause-ok
returns-in-Ok-clause-ok c items s =
    let none = begun_told items c.args.txn false (c.if-is_begun.ensures (past_of items) s.stands.past) in
    let tried = begins c.args.self.now items c.args.txn s none c.in-Some.home c.in-Some.ensures in
    answered c.args.self.now c.enter.new.self items (Begin c.args.txn) c.in-Some.home (BeginEvent c.args.txn) (Begins c.args.txn s.known.body) c.in-Ok.entry
    (c.in-Ok.ensures.ok items (Begins c.args.txn s.known.body) tried.1) tried.0 refl (begun_goes c.args.self.now items c.args.txn none)
