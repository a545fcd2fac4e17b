-- The journal with the draw is one of the node, whether the append passed or failed.
use Rattle.std.proofs.Common.{◌<◌, ◌^◌, refl, arith}
use Rattle.acc_message.specs.declared.entry.Event.TheVariants.{Begin as BeginEvent}
use Rattle.acc_message.specs.NodeRules.{Begins}
use Rattle.acc_payloads.specs.declared.draw.Purpose.TheVariants.{Begin}
use Rattle.acc_durable_node.specs.Node.{draw_group}
use Rattle.acc_durable_node.specs.Actor.{begin_stop}
use Rattle.acc_durable_node.proofs.Nodes.{can_begin, begin_longer, held_longer}
use Rattle.acc_durable_node.proofs.NodeSteps.{stepped}
use Rattle.acc_durable_node.proofs.actor.NodeActor.begin.Goals as goal

pub returns : goal.returns
returns g c =
    let small : c.args.txn < 2 ^ 32 = omega arith in
    let can = can_begin g.D.Disk c.args.topology.now c.args.self.now c.in-Open.node c.in-Open.is c.requires.up c.args.txn c.requires.may in
    stepped g.D.Disk c.args.topology.now c.args.self.now c.settle.new.self c.in-Open.node c.begin-given.new.self c.in-Open.is c.requires.up c.reserve.new.self c.reserve.ensures.items
    (begin_stop c.args.topology.now c.args.txn c.args.body.now) (draw_group c.in-Open.node Begin c.args.txn)
    (λ name past stands. begin_longer g.D.Disk c.args.topology.now c.args.self.now c.in-Open.node c.in-Open.is c.requires.up c.args.txn small name past stands c.args.body.now can)
    (λ name past stands. held_longer g.D.Disk c.args.topology.now c.args.self.now c.in-Open.node c.in-Open.is c.requires.up c.args.txn small name past stands Begin) c.begin-given.ensures.named
    (BeginEvent c.args.txn) (Begins c.args.txn c.args.body.now) (λ name past. refl) (λ name past. refl) c.kept-kept.result c.kept-kept.ensures c.settle.result
    c.begin-given.result c.settle.ensures c.requires.may.name c.requires.may.past c.requires.may.stands c.begin-given.ensures.ok c.begin-given.ensures.err c.begin-given.ensures.appended
    (g.met.D.Disk.counts_now c.begin-given.new.self.journal.disk) c.begin-given.ensures.appends
