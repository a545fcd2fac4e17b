use Rattle.std.proofs.Common.{true, false, refl, sym}
use Rattle.acc_message.specs.declared.entry.Event.TheVariants.{Recover as RecoverEvent}
use Rattle.acc_run_laws.specs.declared.ask.Ask.TheVariants.{Recover}
use Rattle.acc_run_laws.proofs.Addresses.{node_low}
use Rattle.acc_world.specs.Held.{past_of}
use Rattle.acc_world.proofs.Asks.{begun_told, recovers, recovers_act, unknown_skip, unknown_goes, answered}
use Rattle.acc_world.proofs.world.World.recover.Goals as goal

pub returns-then-not-is_begun-clause-skip : goal.returns-then-not-is_begun-clause-skip
returns-then-not-is_begun-clause-skip c items s =
    unknown_skip c.args.self.now items c.args.txn c.args.node (begun_told items c.args.txn false (c.if-not-is_begun.ensures (past_of items) s.stands.past))

pub actor-requires-clause-node_in_range : goal.actor-requires-clause-node_in_range
actor-requires-clause-node_in_range c = node_low c.args.self.now.setup.topology c.args.node c.requires.asked.stands.valid.layout c.requires.asked.known

pub enter-requires : goal.enter-requires
enter-requires c =
    let items = c.requires.items in
    let s = c.requires.asked in
    let is = begun_told items c.args.txn true (c.if-not-is_begun.ensures (past_of items) s.stands.past) in
    record {
      items = items;
      act = recovers_act c.args.self.now items c.args.txn c.args.node s is;
      tried = recovers c.args.self.now items c.args.txn c.args.node s is c.actor.result c.actor.ensures.number;
    }

pub returns-in-Ok-clause-ok : goal.returns-in-Ok-clause-ok
returns-in-Ok-clause-ok c items s =
    let is = begun_told items c.args.txn true (c.if-not-is_begun.ensures (past_of items) s.stands.past) in
    let act = recovers_act c.args.self.now items c.args.txn c.args.node s is in
    answered c.args.self.now c.enter.new.self items (Recover c.args.txn c.args.node) c.actor.result (RecoverEvent c.args.txn) act c.in-Ok.entry
    (c.in-Ok.ensures.ok items act (recovers c.args.self.now items c.args.txn c.args.node s is c.actor.result c.actor.ensures.number)) (sym c.actor.ensures.number) refl
    (unknown_goes c.args.self.now items c.args.txn c.args.node is)
