use Rattle.std.proofs.Common.{◌≡◌, false, ap, ◌∙◌}
use Rattle.acc_durable_node.specs.Actor.{is_shut}
use Rattle.acc_durable_node.proofs.Nodes.{up_in, kept_up}
use Rattle.acc_durable_node.proofs.actor.NodeActor.held.Goals as goal

pub returns-in-Open : goal.returns-in-Open
returns-in-Open g c =
    let sound : c.in-Open.node.journal.broken ≡ false = cc in
    λ layout name past stands.
    c.kept.ensures ∙ kept_up layout name past c.in-Open.node (up_in layout name past c.args.self.now.state c.in-Open.node c.in-Open.is (stands.up (ap is_shut c.in-Open.is ∙ sound)))
