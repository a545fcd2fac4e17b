-- The cluster stands for the items in which its actors took part.
use Rattle.std.proofs.Common.{reverse, refl}
use Rattle.acc_pasts.proofs.Sound.{sound_standing}
use Rattle.acc_schedule_runs.specs.Schedules.{cluster_of}
use Rattle.acc_cluster.specs.Over.{behind_items}
use Rattle.acc_cluster.proofs.OverSlots.{items_standing, few_items, cluster_stands, actors_strictly}
use Rattle.acc_cluster.proofs.cluster.Cluster.over.Goals as goal

pub history_over-requires : goal.history_over-requires
history_over-requires g c =
    let stopped = c.requires.standing.0 in
    let over = c.requires.standing.1 in (
      items_standing c.args.plan.now c.args.items.items stopped (sound_standing (cluster_of c.args.plan.now) (behind_items c.args.items.items stopped) over.sound),
      over.sound.few_bodies,
      few_items (reverse c.args.items.items) over.within,
    )

pub returns-clause-ok : goal.returns-clause-ok
returns-clause-ok g c = λ stopped over.
    cluster_stands g.D.Disk c.args.plan.now c.args.slots.items c.in_ok-slots.slots.items c.in_ok-slots.ensures c.requires.actors c.args.items.items stopped over
    _ refl (c.in_ok-history.ensures stopped)

pub returns-clause-strict : goal.returns-clause-strict
returns-clause-strict g c = λ stopped disks over strictly. record {
  stands = returns-clause-ok g c stopped over;
  strictly =
      actors_strictly g.D.Disk c.args.plan.now c.args.slots.items c.in_ok-slots.slots.items c.in_ok-slots.ensures c.requires.actors c.args.items.items stopped over
      disks strictly;
}
