use Rattle.std.proofs.Common.{refl}
use Rattle.acc_message.specs.declared.entry.Event.TheVariants.{Slow as SlowEvent}
use Rattle.acc_message.specs.NodeRules.{Slows}
use Rattle.acc_run_laws.specs.declared.ask.Ask.TheVariants.{Slow}
use Rattle.acc_node.specs.declared.error.NodeError.TheVariants.{Unknown, NoQuorum}
use Rattle.acc_world.specs.Held.{cluster_of, past_of}
use Rattle.acc_world.proofs.Asks.{none_of, some_of, slows, slow_unknown, answered, slow_id, slow_goes, refused_as}
use Rattle.acc_world.proofs.world.World.slow.Goals as goal

pub returns-then-is_none-clause-skip : goal.returns-then-is_none-clause-skip
returns-then-is_none-clause-skip c items s =
    slow_unknown c.args.self.now items c.args.txn (slow_id items c.args.txn c.id_of.result _ (c.id_of.ensures (past_of items) s.stands.past) (none_of c.id_of.result c.if-is_none.ensures))

pub enter-requires : goal.enter-requires
enter-requires c =
    let items = c.requires.items in
    let s = c.requires.asked in
    let x = some_of c.id_of.result c.if-is_none.ensures in
    record {
      items = items;
      act = Slows x.0;
      tried = (slows c.args.self.now items c.args.txn x.0 s (slow_id items c.args.txn c.id_of.result _ (c.id_of.ensures (past_of items) s.stands.past) x.1) c.in-Some.home c.in-Some.ensures).1;
    }

pub returns-in-Ok-clause-ok : goal.returns-in-Ok-clause-ok
returns-in-Ok-clause-ok c items s =
    let x = some_of c.id_of.result c.if-is_none.ensures in
    let id = slow_id items c.args.txn c.id_of.result _ (c.id_of.ensures (past_of items) s.stands.past) x.1 in
    let tried = slows c.args.self.now items c.args.txn x.0 s id c.in-Some.home c.in-Some.ensures in
    let did = c.in-Ok.ensures.ok items (Slows x.0) tried.1 in
    answered c.args.self.now c.enter.new.self items (Slow c.args.txn) c.in-Some.home (SlowEvent c.args.txn) (Slows x.0) c.in-Ok.entry did tried.0 refl
    (slow_goes c.args.self.now items c.args.txn x.0 id c.in-Some.home tried.0 did.may)

pub returns-in-Err-Unknown-clause-skip : goal.returns-in-Err-Unknown-clause-skip
returns-in-Err-Unknown-clause-skip c items s =
    let x = some_of c.id_of.result c.if-is_none.ensures in
    refused_as (cluster_of c.args.self.now.setup) items c.args.txn c.in-Err-Unknown.field-0 Unknown c.in-Err-Unknown.field-0-is
    (c.in-Err-Unknown.ensures.refused items (Slows x.0) (slows c.args.self.now items c.args.txn x.0 s (slow_id items c.args.txn c.id_of.result _ (c.id_of.ensures (past_of items) s.stands.past) x.1) c.in-Some.home c.in-Some.ensures).1)

pub returns-in-Err-NoQuorum-clause-skip : goal.returns-in-Err-NoQuorum-clause-skip
returns-in-Err-NoQuorum-clause-skip c items s =
    let x = some_of c.id_of.result c.if-is_none.ensures in
    refused_as (cluster_of c.args.self.now.setup) items c.args.txn c.in-Err-NoQuorum.field-0 NoQuorum c.in-Err-NoQuorum.field-0-is
    (c.in-Err-NoQuorum.ensures.refused items (Slows x.0) (slows c.args.self.now items c.args.txn x.0 s (slow_id items c.args.txn c.id_of.result _ (c.id_of.ensures (past_of items) s.stands.past) x.1) c.in-Some.home c.in-Some.ensures).1)
