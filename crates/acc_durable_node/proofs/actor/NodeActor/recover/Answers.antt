-- The journal with the draw is one of the node, whether the append passed or failed.
use Rattle.std.proofs.Common.{◌<◌, ◌^◌, refl, arith}
use Rattle.acc_message.specs.declared.entry.Event.TheVariants.{Recover as RecoverEvent}
use Rattle.acc_message.specs.NodeRules.{Recovers}
use Rattle.acc_payloads.specs.declared.draw.Purpose.TheVariants.{Recover}
use Rattle.acc_durable_node.specs.Node.{draw_group}
use Rattle.acc_durable_node.specs.Actor.{recover_stop}
use Rattle.acc_durable_node.proofs.Nodes.{can_recover, recover_longer, held_longer}
use Rattle.acc_durable_node.proofs.NodeSteps.{stepped}
use Rattle.acc_durable_node.proofs.actor.NodeActor.recover.Goals as goal

pub returns : goal.returns
returns g c =
    let small : c.args.txn < 2 ^ 32 = omega arith in
    let can = can_recover g.D.Disk c.args.topology.now c.args.self.now c.in-Open.node c.in-Open.is c.requires.up c.requires.may in
    stepped g.D.Disk c.args.topology.now c.args.self.now c.settle.new.self c.in-Open.node c.recover-given.new.self c.in-Open.is c.requires.up c.reserve.new.self c.reserve.ensures.items
    (recover_stop c.args.topology.now c.args.txn c.args.id c.args.body.now) (draw_group c.in-Open.node Recover c.args.txn)
    (λ name past stands. recover_longer g.D.Disk c.args.topology.now c.args.self.now c.in-Open.node c.in-Open.is c.requires.up c.args.txn small name past stands c.args.id c.args.body.now can)
    (λ name past stands. held_longer g.D.Disk c.args.topology.now c.args.self.now c.in-Open.node c.in-Open.is c.requires.up c.args.txn small name past stands Recover) c.recover-given.ensures.named
    (RecoverEvent c.args.txn) (Recovers c.args.id c.args.body.now) (λ name past. refl) (λ name past. refl) c.kept-kept.result c.kept-kept.ensures c.settle.result
    c.recover-given.result c.settle.ensures c.requires.may.name c.requires.may.past c.requires.may.stands c.recover-given.ensures.ok c.recover-given.ensures.err c.recover-given.ensures.appended
    (g.met.D.Disk.counts_now c.recover-given.new.self.journal.disk) c.recover-given.ensures.appends
