use Rattle.std.proofs.Common.{Err, ap, ◌∙◌}
use Rattle.std.proofs.lemmas.Result.{IfOk-weaker}
use Rattle.acc_message.specs.declared.entry.Event.TheVariants.{Slow as SlowEvent}
use Rattle.acc_world.specs.declared.held.Held.TheVariants.{Node as HeldNode}
use Rattle.acc_world.proofs.Acting.{as_held}
use Rattle.acc_world.proofs.SlowSteps.{refused_with, slow_took, slow_refused}
use Rattle.acc_world.proofs.held.Held.slow.Goals as goal

pub returns-in-Node-clause-ok : goal.returns-in-Node-clause-ok
returns-in-Node-clause-ok c =
    IfOk-weaker c.slow.result _ _
    (λ emitted slows items earlier act s.
    slow_took c.args.setup.now c.args.history.now c.args.actor c.args.txn items earlier act c.in-Node.node
    (as_held c.args.setup.now c.args.history.now c.args.actor (SlowEvent c.args.txn) c.args.self.now (HeldNode c.in-Node.node) items earlier act c.in-Node.is s)
    c.slow.new.self emitted slows)
    c.slow.ensures.ok

pub returns-in-Node-clause-refused : goal.returns-in-Node-clause-refused
returns-in-Node-clause-refused c =
    refused_with c.slow.result _
    (λ error is items earlier act s.
    slow_refused c.args.setup.now c.args.history.now c.args.actor c.args.txn items earlier act c.in-Node.node
    (as_held c.args.setup.now c.args.history.now c.args.actor (SlowEvent c.args.txn) c.args.self.now (HeldNode c.in-Node.node) items earlier act c.in-Node.is s)
    error
    (λ number start acts h e. (c.slow.ensures.unknown number start acts h).0 (is ∙ ap Err e))
    (λ number start acts h e. (c.slow.ensures.no_quorum number start acts h).0 (is ∙ ap Err e)))
