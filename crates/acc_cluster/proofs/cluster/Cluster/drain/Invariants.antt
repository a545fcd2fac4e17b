-- The messages so far were delivered, each as the oldest that waited; a cluster that tests is still tested.
use Rattle.std.proofs.Common.{◌≡◌, ◌-◌, true, length}
use Rattle.acc_schedule_runs.specs.Situations.{Situation}
use Rattle.acc_schedule_runs.specs.Limits.{most_items}
use Rattle.acc_cluster.specs.Stands.{StandsFor}
use Rattle.acc_cluster.specs.Tested.{IsTested}
use Rattle.acc_cluster.proofs.Coming.{HasCome}
use Rattle.acc_cluster.proofs.cluster.Cluster.drain.Given as goal

abbrev pub invariant-loop-message : goal.invariant-loop-message
invariant-loop-message g l =
    ((s : Situation) → StandsFor g.D.Disk l.plan l.initial.self s → HasCome g.D.Disk l.plan l.initial.self l.self s)
    × (l.tests ≡ true → IsTested g.D.Disk l.plan l.self)

abbrev pub decreases-loop-message : goal.decreases-loop-message
decreases-loop-message g l = most_items - length l.self.history.items.items
