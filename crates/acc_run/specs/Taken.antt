-- The steps of a plan that a cluster has taken, from actors that had done nothing.
use Rattle.std.specs.Prelude.{ℕ, List, [], length}
use Rattle.acc_ports.specs.declared.disk.Disk.{Ghosts}
use Rattle.acc_message.specs.declared.error.Which.{Which}
use Rattle.acc_message.specs.declared.item.Item.{Item}
use Rattle.acc_schedule.specs.Content.{Content}
use Rattle.acc_schedule.specs.declared.plan.Step.{Step}
use Rattle.acc_schedule_runs.specs.Situations.{Situation, opened}
use Rattle.acc_schedule_runs.specs.Moves.{Answers}
use Rattle.acc_schedule_runs.specs.Schedules.{cluster_of, Follows}
use Rattle.acc_schedule_runs.specs.Laws.{AgreeBelow}
use Rattle.acc_schedule_runs.specs.Fronts.{LimitEnds}
use Rattle.acc_schedule_runs.specs.StrictMoves.{StrictSituation, opened_strictly}
use Rattle.acc_schedule_runs.specs.StrictSchedules.{FollowsStrictly}
use Rattle.acc_cluster.specs.declared.cluster.Cluster.{Cluster}
use Rattle.acc_cluster.specs.Stands.{StandsFor, StandsStrictly}
use Rattle.acc_cluster.specs.Limits.{StopsAt}
use Rattle.acc_run.specs.Given.{IsReached}

-- with some answers of the disks
pub record HasTaken {D : Type 0} (port : Ghosts D) (plan : Content) (cluster : Cluster D) (steps : List Step) : Type 0 where
  pub answers : Answers
  pub last : Situation
  pub follows : Follows (cluster_of plan) answers 0 steps (opened []) last
  pub stands : StandsFor port plan cluster last

-- With some answers of the disks the run comes to a situation, for which the actors stand with their disks, and a limit ends it after these
-- items, whatever disks answer from there on. The cluster has entered these items.
pub record IsStopped {D : Type 0} (port : Ghosts D) (plan : Content) (cluster : Cluster D) (items : List Item) (which : Which) (number : ℕ) : Type 0 where
  pub answers : Answers
  pub reached : Situation
  pub is_reached : IsReached plan answers reached
  pub ends : (more : Answers) → AgreeBelow answers more (length reached.own) → LimitEnds plan more items which number
  pub stops : StopsAt port plan cluster items reached

-- over strict disks
pub record HasTakenStrictly {D : Type 0} (port : Ghosts D) (plan : Content) (cluster : Cluster D) (steps : List Step) : Type 0 where
  pub last : StrictSituation
  pub follows : FollowsStrictly (cluster_of plan) 0 steps (opened_strictly []) last
  pub stands : StandsStrictly port plan cluster last
