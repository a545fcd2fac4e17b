use Rattle.std.proofs.Common.{length, sym}
use Rattle.std.proofs.lemmas.Bool.{ltb-true}
use Rattle.std.proofs.lemmas.Result.{IfOk-weaker}
use Rattle.acc_message.specs.declared.entry.Event.TheVariants.{Begin as BeginEvent}
use Rattle.acc_message.specs.NodeRules.{Begins}
use Rattle.acc_world.specs.declared.held.Held.TheVariants.{Node as HeldNode}
use Rattle.acc_world.proofs.Acting.{read_is, begins_it, node_took, drawn_low, seen_low, as_held}
use Rattle.acc_world.proofs.held.Held.begin.Goals as goal

pub begin-requires-clause-drawn_in_range : goal.begin-requires-clause-drawn_in_range
begin-requires-clause-drawn_in_range c =
    drawn_low c.args.setup.now c.args.history.now c.args.actor (BeginEvent c.args.txn) c.requires.items c.requires.earlier c.requires.act c.in-Node.node
    (as_held c.args.setup.now c.args.history.now c.args.actor (BeginEvent c.args.txn) c.args.self.now (HeldNode c.in-Node.node) c.requires.items c.requires.earlier c.requires.act c.in-Node.is c.requires.asked)

pub begin-requires-clause-seen_in_range : goal.begin-requires-clause-seen_in_range
begin-requires-clause-seen_in_range c =
    seen_low c.args.setup.now c.args.history.now c.args.actor (BeginEvent c.args.txn) c.requires.items c.requires.earlier c.requires.act c.in-Node.node
    (as_held c.args.setup.now c.args.history.now c.args.actor (BeginEvent c.args.txn) c.args.self.now (HeldNode c.in-Node.node) c.requires.items c.requires.earlier c.requires.act c.in-Node.is c.requires.asked)

pub returns-in-Node-clause-ok : goal.returns-in-Node-clause-ok
returns-in-Node-clause-ok c =
    IfOk-weaker c.begin.result _ _
    (λ emitted takes items earlier act s.
    node_took c.args.setup.now c.args.history.now c.args.actor (BeginEvent c.args.txn) items earlier act c.in-Node.node c.begin.new.self (Begins c.args.txn c.in-Some.body.now) emitted
    (begins_it c.args.txn _ c.in-Some.body.now act
    (read_is c.as_slice.result.now c.args.setup.now.bodies c.args.txn c.in-Some.body.now c.as_slice.ensures (ltb-true c.args.txn (length c.as_slice.result.now) (sym c.in-Some.ensures.lookup.0)) c.in-Some.ensures.lookup.1)
    s.may.act_is)
    (record { act_is = s.may.act_is; place = s.may.place }) takes
    (as_held c.args.setup.now c.args.history.now c.args.actor (BeginEvent c.args.txn) c.args.self.now (HeldNode c.in-Node.node) items earlier act c.in-Node.is s))
    c.begin.ensures.ok
