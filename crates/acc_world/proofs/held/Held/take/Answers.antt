use Rattle.acc_message.specs.declared.entry.Event.TheVariants.{Message as MessageEvent}
use Rattle.acc_message.specs.NodeRules.{Takes}
use Rattle.acc_world.specs.Held.{past_of}
use Rattle.acc_world.specs.declared.held.Held.TheVariants.{Node as HeldNode, Store as HeldStore}
use Rattle.acc_world.proofs.Acting.{node_took, as_held, taking, deliverable, may_take, is_for, greatest_low, store_took}
use Rattle.acc_world.proofs.held.Held.take.Goals as goal

pub step-requires : goal.step-requires
step-requires c =
    record {
      top_in_range =
          (deliverable c.args.setup.now c.args.history.now c.args.actor c.args.number c.in-Some.m.now c.requires.items c.requires.earlier c.requires.act c.args.self.now
          (c.in-Some.ensures (past_of c.requires.items) c.requires.asked.past) c.requires.asked).top;
    }

pub step-requires-in-Store-clause-store : goal.step-requires-in-Store-clause-store
step-requires-in-Store-clause-store c =
    is_for c.args.setup.now c.args.history.now c.args.actor c.args.number c.in-Some.m.now c.requires.items c.requires.earlier c.requires.act c.in-Store.store
    (c.in-Some.ensures (past_of c.requires.items) c.requires.asked.past)
    (as_held c.args.setup.now c.args.history.now c.args.actor (MessageEvent c.args.number) c.args.self.now (HeldStore c.in-Store.store) c.requires.items c.requires.earlier c.requires.act c.in-Store.is c.requires.asked)

pub step-requires-in-Store-clause-top : goal.step-requires-in-Store-clause-top
step-requires-in-Store-clause-top c =
    (deliverable c.args.setup.now c.args.history.now c.args.actor c.args.number c.in-Some.m.now c.requires.items c.requires.earlier c.requires.act c.args.self.now
    (c.in-Some.ensures (past_of c.requires.items) c.requires.asked.past) c.requires.asked).top

pub step-requires-in-Store-clause-greatest : goal.step-requires-in-Store-clause-greatest
step-requires-in-Store-clause-greatest c =
    greatest_low c.args.setup.now c.args.history.now c.args.actor c.args.number c.in-Some.m.now c.requires.items c.requires.earlier c.requires.act c.in-Store.store
    (c.in-Some.ensures (past_of c.requires.items) c.requires.asked.past)
    (as_held c.args.setup.now c.args.history.now c.args.actor (MessageEvent c.args.number) c.args.self.now (HeldStore c.in-Store.store) c.requires.items c.requires.earlier c.requires.act c.in-Store.is c.requires.asked)

pub returns-in_ok-step-in-Node-clause-ok : goal.returns-in_ok-step-in-Node-clause-ok
returns-in_ok-step-in-Node-clause-ok c items earlier act s =
    let found = c.in-Some.ensures (past_of items) s.past in
    node_took c.args.setup.now c.args.history.now c.args.actor (MessageEvent c.args.number) items earlier act c.in-Node.node c.step.new.self (Takes c.in-Some.m.now) c.in_ok-step-in-Node.field-0
    (taking c.args.setup.now c.args.history.now c.args.actor c.args.number c.in-Some.m.now items earlier act c.args.self.now found s)
    (may_take c.args.setup.now c.args.history.now c.args.actor c.args.number c.in-Some.m.now items earlier act c.args.self.now found s)
    c.in_ok-step-in-Node.ensures.ok
    (as_held c.args.setup.now c.args.history.now c.args.actor (MessageEvent c.args.number) c.args.self.now (HeldNode c.in-Node.node) items earlier act c.in-Node.is s)

pub returns-in_ok-out-in-Store-clause-ok : goal.returns-in_ok-out-in-Store-clause-ok
returns-in_ok-out-in-Store-clause-ok c items earlier act s =
    let found = c.in-Some.ensures (past_of items) s.past in
    store_took c.args.setup.now c.args.history.now c.args.actor c.args.number c.in-Some.m.now items earlier act c.in-Store.store found
    (as_held c.args.setup.now c.args.history.now c.args.actor (MessageEvent c.args.number) c.args.self.now (HeldStore c.in-Store.store) items earlier act c.in-Store.is s)
    c.step-in-Store.new.self c.in_ok-out-in-Store.out c.new.result c.new.ensures c.in_ok-out-in-Store.ensures.ok
