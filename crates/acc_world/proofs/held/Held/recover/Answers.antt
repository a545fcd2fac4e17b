use Rattle.std.proofs.Common.{length, Some, sym}
use Rattle.std.proofs.lemmas.Bool.{ltb-true}
use Rattle.acc_message.specs.declared.entry.Event.TheVariants.{Recover as RecoverEvent}
use Rattle.acc_message.specs.NodeRules.{Recovers}
use Rattle.acc_world.specs.declared.held.Held.TheVariants.{Node as HeldNode}
use Rattle.acc_world.specs.Held.{past_of}
use Rattle.acc_world.proofs.Acting.{read_is, recovers_it, id_known, node_took, drawn_low, seen_low, as_held}
use Rattle.acc_world.proofs.held.Held.recover.Goals as goal

pub recover-requires-clause-drawn_in_range : goal.recover-requires-clause-drawn_in_range
recover-requires-clause-drawn_in_range c =
    drawn_low c.args.setup.now c.args.history.now c.args.actor (RecoverEvent c.args.txn) c.requires.items c.requires.earlier c.requires.act c.in-Node.node
    (as_held c.args.setup.now c.args.history.now c.args.actor (RecoverEvent c.args.txn) c.args.self.now (HeldNode c.in-Node.node) c.requires.items c.requires.earlier c.requires.act c.in-Node.is c.requires.asked)

pub recover-requires-clause-seen_in_range : goal.recover-requires-clause-seen_in_range
recover-requires-clause-seen_in_range c =
    seen_low c.args.setup.now c.args.history.now c.args.actor (RecoverEvent c.args.txn) c.requires.items c.requires.earlier c.requires.act c.in-Node.node
    (as_held c.args.setup.now c.args.history.now c.args.actor (RecoverEvent c.args.txn) c.args.self.now (HeldNode c.in-Node.node) c.requires.items c.requires.earlier c.requires.act c.in-Node.is c.requires.asked)

pub returns-in_ok-recover-in-Node-clause-ok : goal.returns-in_ok-recover-in-Node-clause-ok
returns-in_ok-recover-in-Node-clause-ok c items earlier act s =
    node_took c.args.setup.now c.args.history.now c.args.actor (RecoverEvent c.args.txn) items earlier act c.in-Node.node c.recover.new.self (Recovers c.in-Some.id c.in-Some-get.body.now) c.in_ok-recover-in-Node.field-0
    (recovers_it c.in-Some.id c.in-Some-get.body.now _ _ act (id_known items c.args.txn (Some c.in-Some.id) (c.in-Some.ensures (past_of items) s.past))
    (read_is c.as_slice.result.now c.args.setup.now.bodies c.args.txn c.in-Some-get.body.now c.as_slice.ensures (ltb-true c.args.txn (length c.as_slice.result.now) (sym c.in-Some-get.ensures.lookup.0)) c.in-Some-get.ensures.lookup.1)
    s.known)
    (record { act_is = s.may.act_is; place = s.may.place }) c.in_ok-recover-in-Node.ensures.ok
    (as_held c.args.setup.now c.args.history.now c.args.actor (RecoverEvent c.args.txn) c.args.self.now (HeldNode c.in-Node.node) items earlier act c.in-Node.is s)
