use Rattle.std.proofs.Common.{◌<◌, ◌^◌, Result, Err, refl, sym, ap, subst, ◌∙◌, arith}
use Rattle.std.proofs.lemmas.Result.{err_from_is_err_and}
use Rattle.acc_message.specs.declared.entry.Emitted.{Emitted}
use Rattle.acc_journal.specs.Calls.{Appends}
use Rattle.acc_journal.proofs.Appends.{no_append}
use Rattle.acc_payloads.specs.declared.draw.Purpose.TheVariants.{Begin}
use Rattle.acc_durable_node.specs.declared.node.DurableNode.{DurableNode}
use Rattle.acc_durable_node.specs.declared.error.DurableError.{DurableError}
use Rattle.acc_durable_node.specs.Node.{draw_answer, draw_group}
use Rattle.acc_durable_node.proofs.Appended.{node_appends}
use Rattle.acc_durable_node.proofs.Standing.{not_begun, begin_ok, begin_err}
use Rattle.acc_durable_node.proofs.node.DurableNode.begin.Goals as goal

pub returns-in-Ok-clause-ok : goal.returns-in-Ok-clause-ok
returns-in-Ok-clause-ok g c =
    let small : c.args.txn < 2 ^ 32 = omega arith in
    begin_ok c.args.topology.now c.args.self.now c.group.new.self c.put_down.new.self c.begin.new.self c.in_ok-group.group c.args.txn c.args.body.now c.in-Ok.emitted small
    c.requires.low c.group.ensures.same c.in_ok-group.ensures.group c.put_down.ensures.same
    (λ acts stands. c.in-Ok.ensures.ok c.args.self.now.name.number c.args.self.now.name.start acts stands)
    (λ acts stands. not_begun c.id_of.result _ c.is_some.result (c.id_of.ensures c.args.topology.now c.args.self.now.name.number c.args.self.now.name.start acts stands.stands) c.is_some.ensures c.if-is_some.false)
    c.put_down.result c.put_down.ensures.ok c.put_down.ensures.drew

pub returns-in-Ok-clause-err : goal.returns-in-Ok-clause-err
returns-in-Ok-clause-err g c =
    let small : c.args.txn < 2 ^ 32 = omega arith in
    begin_err c.args.topology.now c.args.self.now c.group.new.self c.put_down.new.self c.begin.new.self c.in_ok-group.group c.args.txn c.args.body.now c.in-Ok.emitted small
    c.requires.low c.group.ensures.same c.in_ok-group.ensures.group c.put_down.ensures.same
    (λ acts stands. c.in-Ok.ensures.ok c.args.self.now.name.number c.args.self.now.name.start acts stands)
    (λ acts stands. not_begun c.id_of.result _ c.is_some.result (c.id_of.ensures c.args.topology.now c.args.self.now.name.number c.args.self.now.name.start acts stands.stands) c.is_some.ensures c.if-is_some.false)
    c.put_down.result c.put_down.ensures.err

pub returns-then-is_some-clause-appends : goal.returns-then-is_some-clause-appends
returns-then-is_some-clause-appends g c =
    let journal = c.args.self.now.journal in
    no_append g.D.Disk journal.disk journal.disk journal.payloads _ (g.met.D.Disk.only_now journal.disk) (c.is_broken-sound.ensures.sound c.requires.sound) refl

pub returns-in_err-group-clause-appends : goal.returns-in_err-group-clause-appends
returns-in_err-group-clause-appends g c =
    let p = err_from_is_err_and c.from_residual.result c.from_residual.ensures.1 in
    let journal = c.args.self.now.journal in
    subst (λ (r : Result Emitted DurableError). Appends g.D.Disk journal.disk c.group.new.self.journal.disk journal.payloads (draw_group c.args.self.now Begin c.args.txn) (draw_answer r)) (sym (p.1 ∙ ap Err p.2))
    (no_append g.D.Disk journal.disk c.group.new.self.journal.disk journal.payloads _ (g.met.D.Disk.only_now journal.disk) (c.is_broken-sound.ensures.sound c.requires.sound) (ap (λ (n : DurableNode g.row.D.Denot). n.journal.disk) c.group.ensures.same))

pub returns-in-Ok-clause-appends : goal.returns-in-Ok-clause-appends
returns-in-Ok-clause-appends g c =
    node_appends g.D.Disk c.args.self.now c.group.new.self c.group.new.self.journal.spare c.put_down.new.self.journal.disk c.in_ok-group.group (draw_group c.args.self.now Begin c.args.txn) _ c.group.ensures.same c.in_ok-group.ensures.group c.put_down.ensures.appends

pub returns-in-Err-Begun-clause-appends : goal.returns-in-Err-Begun-clause-appends
returns-in-Err-Begun-clause-appends g c =
    let journal = c.args.self.now.journal in
    no_append g.D.Disk journal.disk c.group.new.self.journal.disk journal.payloads _ (g.met.D.Disk.only_now journal.disk) (c.is_broken-sound.ensures.sound c.requires.sound) (ap (λ (n : DurableNode g.row.D.Denot). n.journal.disk) c.group.ensures.same)
