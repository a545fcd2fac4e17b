use Rattle.std.proofs.Common.{ℕ, List, sym, subst}
use Rattle.std.proofs.lemmas.Result.{IfOk-weaker}
use Rattle.acc_message.specs.declared.message.Message.{Message}
use Rattle.acc_txn.specs.declared.outcome.Outcome.{Outcome}
use Rattle.acc_node.specs.Stands.{HasInformed, HasTaken}
use Rattle.acc_node.proofs.Taking.{inform_taken, heard_taken, not_inform}
use Rattle.acc_node.proofs.node.Node.take.Goals as goal

pub returns-in-Inform-clause-ok : goal.returns-in-Inform-clause-ok
returns-in-Inform-clause-ok c =
    let layout = c.args.topology.now in
    let w = c.in-Inform in
    IfOk-weaker c.inform.result _ _
    (λ emitted h number start acts s.
    subst (λ (m : Message). HasTaken layout number start c.inform.new.self acts m emitted) (sym w.is)
    (inform_taken layout number start acts c.args.self.now c.inform.new.self s w.from w.to w.id w.ballot w.outcome emitted
    (subst (λ (o : Outcome). HasInformed c.args.self.now c.inform.new.self w.id o.reply emitted) c.outcome.ensures h)))
    c.inform.ensures.ok

pub returns-in_default-clause-ok : goal.returns-in_default-clause-ok
returns-in_default-clause-ok c =
    let layout = c.args.topology.now in
    IfOk-weaker c.hear.result _ _
    (λ emitted h number start acts s.
    heard_taken layout number start acts c.args.self.now c.hear.new.self c.args.m.now emitted s h (not_inform c.args.m.now c.in_default.not-Inform))
    c.hear.ensures.ok
