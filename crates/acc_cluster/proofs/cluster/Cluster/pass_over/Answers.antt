use Rattle.std.proofs.Common.{refl}
use Rattle.acc_cluster.proofs.Stepped.{has_skipped}
use Rattle.acc_cluster.proofs.Taken.{on_ok}
use Rattle.acc_message.specs.declared.item.Item.TheVariants.{Skipped}
use Rattle.acc_cluster.proofs.KeepsTested.{item_tested}
use Rattle.acc_cluster.proofs.cluster.Cluster.pass_over.Goals as goal

pub returns-clause-ok : goal.returns-clause-ok
returns-clause-ok g c =
    on_ok _ _ c.enter_skip.result (λ enter s a event h place.
    has_skipped g.D.Disk c.args.plan.now c.args.self.now _ s c.args.number a event h c.args.cause refl
    (enter s h.past place)) c.enter_skip.ensures.ok

pub returns-clause-tested : goal.returns-clause-tested
returns-clause-tested g c =
    item_tested g.D.Disk c.args.plan.now c.args.self.now c.enter_skip.new.history (Skipped c.args.number c.args.cause) c.enter_skip.result c.enter_skip.ensures.ok
