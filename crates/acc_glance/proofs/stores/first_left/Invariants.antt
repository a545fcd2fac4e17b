-- The nodes so far include the given one, and none of them is left.
use Rattle.std.proofs.Common.{◌≡◌, ◌<◌, None, find}
use Rattle.acc_schedule_runs.specs.Schedules.{cluster_of}
use Rattle.acc_schedule_runs.specs.Situations.{Situation}
use Rattle.acc_cluster.specs.Stands.{StandsFor}
use Rattle.acc_glance.specs.Stages.{is_left}
use Rattle.acc_glance.proofs.Lefts.{below}
use Rattle.acc_glance.proofs.stores.first_left.Given as goal

abbrev pub invariant-loop-node : goal.invariant-loop-node
invariant-loop-node g l =
    record {
      above : l.after < l.node;
      none : (s : Situation) → StandsFor g.D.Disk l.plan l.cluster s
          → find (is_left (cluster_of l.plan) s l.key l.after l.visited) (below (is_left (cluster_of l.plan) s l.key l.after l.visited) l.replicas.nodes l.node) ≡ None;
    }
