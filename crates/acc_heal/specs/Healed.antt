-- A cluster whose healing has come to its end.
use Rattle.std.specs.Prelude.{◌≡◌, ℕ, List}
use Rattle.acc_ports.specs.declared.disk.Disk.{Ghosts}
use Rattle.acc_message.specs.declared.item.Item.{Item}
use Rattle.acc_schedule.specs.Content.{Content}
use Rattle.acc_schedule.specs.declared.plan.Step.{Step}
use Rattle.acc_schedule_runs.specs.Situations.{Situation}
use Rattle.acc_schedule_runs.specs.Moves.{Answers}
use Rattle.acc_schedule_runs.specs.StrictMoves.{StrictSituation}
use Rattle.acc_run.specs.Given.{GivesBack}
use Rattle.acc_cluster.specs.declared.cluster.Cluster.{Cluster}
use Rattle.acc_cluster.specs.Stands.{StandsFor, StandsStrictly}
use Rattle.acc_heal_laws.specs.Healings.{IsHealing, IsStrictHealing}

-- the plan's run comes to what it was between, and its healing from there to where the cluster stands, with some answers of the disks
pub record HasHealed {D : Type 0} (port : Ghosts D) (plan : Content) (between : Situation) (cluster : Cluster D) : Type 0 where
  pub answers : Answers
  pub steps : List Step
  pub last : Situation
  pub healing : IsHealing plan answers steps between last
  pub stands : StandsFor port plan cluster last

-- over strict disks
pub record HasHealedStrictly {D : Type 0} (port : Ghosts D) (plan : Content) (between : StrictSituation) (cluster : Cluster D) : Type 0 where
  pub steps : List Step
  pub last : StrictSituation
  pub healing : IsStrictHealing plan steps between last
  pub stands : StandsStrictly port plan cluster last

-- ---- items

-- the items, newest first, are those of the plan's run and its healing, with these answers of the disks
pub record HealsTo (plan : Content) (answers : Answers) (items : List Item) : Type 0 where
  pub steps : List Step
  pub between : Situation
  pub last : Situation
  pub healing : IsHealing plan answers steps between last
  pub items_are : items ≡ last.own

-- The items are those of the plan's run and its healing, with some answers of the disks. These came back, each keeping its actor where the
-- healing ends.
pub record HasRunHealing {D : Type 0} (port : Ghosts D) (plan : Content) (items : List Item) (before after : List (ℕ × D)) : Type 0 where
  pub answers : Answers
  pub heals : HealsTo plan answers items
  pub back : GivesBack port plan heals.last before after

-- over strict disks
pub record HealsStrictlyTo (plan : Content) (items : List Item) : Type 0 where
  pub steps : List Step
  pub between : StrictSituation
  pub last : StrictSituation
  pub healing : IsStrictHealing plan steps between last
  pub items_are : items ≡ last.found.own
