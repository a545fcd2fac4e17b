-- Each image is one that a crash may leave of the past.
use Rattle.std.proofs.Common.{subst}
use Rattle.acc_durable_store.specs.Actor.{IsJournal}
use Rattle.acc_payloads.proofs.Left.{holds}
use Rattle.acc_durable_store.proofs.StoreActors.{marked_messages}
use Rattle.acc_durable_store.proofs.actor.StoreActor.into_parts.Goals as goal

pub returns-clause-holds : goal.returns-clause-holds
returns-clause-holds g c = λ layout name past staged stands image i.
    holds (IsJournal layout name) name.version (marked_messages layout name) past image (stands.left image (subst (λ (d : g.row.D.Denot). g.D.Disk.is_image d image) c.into_parts.ensures.disk i))
