use Rattle.std.proofs.Common.{◌<◌, ◌∙◌, length, arith}
use Rattle.std.proofs.lemmas.List.{get_or_read}
use Rattle.acc_actors.specs.declared.slot.Slot.TheVariants.{Empty}
use Rattle.acc_cluster.proofs.RestartClusters.{slot_reopened}
use Rattle.acc_cluster.proofs.KeepsTested.{written_twice, slots_reopened}
use Rattle.acc_cluster.proofs.cluster.Cluster.reopen.Goals as goal

pub returns-clause-ok : goal.returns-clause-ok
returns-clause-ok g c =
    let within : c.args.actor.0 < length c.args.self.now.slots.items = omega (arith, c.if-place-len.false, c.len.ensures) in
    slot_reopened g.D.Disk
    c.args.plan.now c.args.actor c.args.choice c.args.self.now c.requires.known c.replace-slot.new.dest c.replace-slot.result c.restart-slot.result.0 c.restart-slot.result.1
    within c.replace-slot.ensures.after
    (c.replace-slot.ensures.value ∙ get_or_read c.args.self.now.slots.items c.args.actor.0 _ within c.index_mut.ensures.value Empty)
    c.restart-slot.ensures.ok c.restart-slot.ensures.strict c.restart-slot.ensures.faults.cause

pub returns-clause-safe : goal.returns-clause-safe
returns-clause-safe g c =
    let within : c.args.actor.0 < length c.args.self.now.slots.items = omega (arith, c.if-place-len.false, c.len.ensures) in
    slots_reopened g.D.Disk c.args.plan.now c.args.self.now.slots.items _ c.args.actor c.replace-slot.result c.restart-slot.result.0 c.restart-slot.result.1 within
    (written_twice g.D.Disk c.args.plan.now c.args.self.now.slots.items c.args.actor c.replace-slot.new.dest c.restart-slot.result.0 within)
    (c.replace-slot.ensures.value ∙ get_or_read c.args.self.now.slots.items c.args.actor.0 _ within c.index_mut.ensures.value Empty)
    c.restart-slot.ensures.safe
