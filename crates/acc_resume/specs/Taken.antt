-- The steps that a cluster has taken since it was opened from journals.
use Rattle.std.specs.Prelude.{List}
use Rattle.acc_ports.specs.declared.disk.Disk.{Ghosts}
use Rattle.acc_message.specs.declared.item.Item.{Item}
use Rattle.acc_schedule.specs.Content.{Content}
use Rattle.acc_schedule.specs.declared.plan.Step.{Step}
use Rattle.acc_schedule_runs.specs.Schedules.{cluster_of}
use Rattle.acc_schedule_runs.specs.StrictMoves.{StrictSituation, opened_strictly}
use Rattle.acc_schedule_runs.specs.StrictSchedules.{FollowsStrictly}
use Rattle.acc_cluster.specs.declared.cluster.Cluster.{Cluster}
use Rattle.acc_cluster.specs.Stands.{StandsStrictly}

-- after the earlier run, over strict disks
pub record HasTakenAfter {D : Type 0} (port : Ghosts D) (plan : Content) (earlier : List Item) (cluster : Cluster D) (steps : List Step) : Type 0 where
  pub last : StrictSituation
  pub follows : FollowsStrictly (cluster_of plan) 0 steps (opened_strictly earlier) last
  pub stands : StandsStrictly port plan cluster last
