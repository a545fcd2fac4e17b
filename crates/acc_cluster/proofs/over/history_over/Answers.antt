-- Each item stands behind those before it.
use Rattle.std.proofs.Common.{List, reverse, [], subst}
use Rattle.acc_message.specs.declared.item.Item.{Item}
use Rattle.acc_run_laws.specs.Sends.{AreFew}
use Rattle.acc_safety.specs.Valid.{IsStanding}
use Rattle.acc_schedule_runs.specs.Schedules.{cluster_of}
use Rattle.acc_cluster.specs.Over.{behind_items}
use Rattle.acc_cluster.proofs.OverSlots.{seam_follows}
use Rattle.acc_cluster.proofs.over.history_over.Goals as goal

pub over-requires : goal.over-requires
over-requires c = λ before item after parts.
    let cluster = cluster_of c.args.plan.now in
    seam_follows before item after cluster (subst (λ (l : List Item). IsStanding cluster (reverse l)) parts c.requires.0) c.requires.1
    (subst (λ (l : List Item). AreFew (reverse l)) parts c.requires.2)

pub returns : goal.returns
returns c = λ stopped. record {
  stands = c.stopped_steps_are_apart.ensures c.in_ok-history.history (behind_items c.args.items.items []) stopped c.in_ok-history.ensures.stands;
  weighed = c.in_ok-history.ensures.weighed;
}
