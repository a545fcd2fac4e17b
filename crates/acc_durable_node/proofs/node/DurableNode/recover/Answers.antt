use Rattle.std.proofs.Common.{◌<◌, ◌^◌, Result, Err, sym, ap, subst, ◌∙◌, arith}
use Rattle.std.proofs.lemmas.Result.{err_from_is_err_and}
use Rattle.acc_message.specs.declared.entry.Emitted.{Emitted}
use Rattle.acc_journal.specs.Calls.{Appends}
use Rattle.acc_journal.proofs.Appends.{no_append}
use Rattle.acc_payloads.specs.declared.draw.Purpose.TheVariants.{Recover}
use Rattle.acc_durable_node.specs.declared.node.DurableNode.{DurableNode}
use Rattle.acc_durable_node.specs.declared.error.DurableError.{DurableError}
use Rattle.acc_durable_node.specs.Node.{draw_answer, draw_group}
use Rattle.acc_durable_node.proofs.Appended.{node_appends}
use Rattle.acc_durable_node.proofs.Standing.{recover_ok, recover_err}
use Rattle.acc_durable_node.proofs.node.DurableNode.recover.Goals as goal

pub returns-clause-ok : goal.returns-clause-ok
returns-clause-ok g c =
    let small : c.args.txn < 2 ^ 32 = omega arith in
    recover_ok c.args.topology.now c.args.self.now c.group.new.self c.put_down.new.self c.recover.new.self c.in_ok-group.group c.args.txn c.args.id c.args.body.now c.in_ok-emitted.emitted small
    c.requires.low c.group.ensures.same c.in_ok-group.ensures.group c.put_down.ensures.same
    (λ acts stands. c.in_ok-emitted.ensures.ok c.args.self.now.name.number c.args.self.now.name.start acts stands)
    c.put_down.result c.put_down.ensures.ok c.put_down.ensures.drew

pub returns-clause-err : goal.returns-clause-err
returns-clause-err g c =
    let small : c.args.txn < 2 ^ 32 = omega arith in
    recover_err c.args.topology.now c.args.self.now c.group.new.self c.put_down.new.self c.recover.new.self c.in_ok-group.group c.args.txn c.args.id c.args.body.now c.in_ok-emitted.emitted small
    c.requires.low c.group.ensures.same c.in_ok-group.ensures.group c.put_down.ensures.same
    (λ acts stands. c.in_ok-emitted.ensures.ok c.args.self.now.name.number c.args.self.now.name.start acts stands)
    c.put_down.result c.put_down.ensures.err

pub returns-in_err-group-clause-appends : goal.returns-in_err-group-clause-appends
returns-in_err-group-clause-appends g c =
    let p = err_from_is_err_and c.from_residual.result c.from_residual.ensures.1 in
    let journal = c.args.self.now.journal in
    subst (λ (r : Result Emitted DurableError). Appends g.D.Disk journal.disk c.group.new.self.journal.disk journal.payloads (draw_group c.args.self.now Recover c.args.txn) (draw_answer r)) (sym (p.1 ∙ ap Err p.2))
    (no_append g.D.Disk journal.disk c.group.new.self.journal.disk journal.payloads _ (g.met.D.Disk.only_now journal.disk) (c.is_broken-sound.ensures.sound c.requires.sound) (ap (λ (n : DurableNode g.row.D.Denot). n.journal.disk) c.group.ensures.same))

pub returns-in_err-emitted-clause-appends : goal.returns-in_err-emitted-clause-appends
returns-in_err-emitted-clause-appends g c =
    let p = err_from_is_err_and c.from_residual-in_err-emitted.result c.from_residual-in_err-emitted.ensures.1 in
    let journal = c.args.self.now.journal in
    subst (λ (r : Result Emitted DurableError). Appends g.D.Disk journal.disk c.group.new.self.journal.disk journal.payloads (draw_group c.args.self.now Recover c.args.txn) (draw_answer r)) (sym (p.1 ∙ ap Err p.2))
    (no_append g.D.Disk journal.disk c.group.new.self.journal.disk journal.payloads _ (g.met.D.Disk.only_now journal.disk) (c.is_broken-sound.ensures.sound c.requires.sound) (ap (λ (n : DurableNode g.row.D.Denot). n.journal.disk) c.group.ensures.same))

pub returns-clause-appends : goal.returns-clause-appends
returns-clause-appends g c =
    node_appends g.D.Disk c.args.self.now c.group.new.self c.group.new.self.journal.spare c.put_down.new.self.journal.disk c.in_ok-group.group (draw_group c.args.self.now Recover c.args.txn) _ c.group.ensures.same c.in_ok-group.ensures.group c.put_down.ensures.appends
