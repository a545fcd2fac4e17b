-- Each image is one that a crash may leave of the past.
use Rattle.std.proofs.Common.{subst}
use Rattle.acc_durable_node.specs.Actor.{IsJournal}
use Rattle.acc_payloads.proofs.Left.{holds}
use Rattle.acc_durable_node.proofs.Nodes.{marked_acts}
use Rattle.acc_durable_node.proofs.actor.NodeActor.into_parts.Goals as goal

pub returns-clause-holds : goal.returns-clause-holds
returns-clause-holds g c = λ layout name past stands image i.
    holds (IsJournal layout name) name.version (marked_acts layout name) past image (stands.left image (subst (λ (d : g.row.D.Denot). g.D.Disk.is_image d image) c.into_parts.ensures.disk i))
