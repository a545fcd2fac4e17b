-- Where a limit leaves a cluster.
use Rattle.std.specs.Prelude.{◌≡◌, ◌⊎◌, ◌≤◌, IsTrue, List, ◌∷◌, ◌++◌, reverse, Contains}
use Rattle.std.specs.List.{list_all}
use Rattle.acc_stamp.specs.declared.actors.Actor.{Actor}
use Rattle.acc_ports.specs.declared.disk.Disk.{Ghosts}
use Rattle.acc_message.specs.declared.item.Item.{Item}
use Rattle.acc_schedule.specs.Actors.{actors}
use Rattle.acc_schedule.specs.Content.{Content}
use Rattle.acc_pasts.specs.Stopped.{IsSound}
use Rattle.acc_schedule_runs.specs.Situations.{Situation, is_lost}
use Rattle.acc_schedule_runs.specs.Schedules.{cluster_of}
use Rattle.acc_cluster.specs.declared.cluster.Cluster.{Cluster}
use Rattle.acc_cluster.specs.Entering.{IsPastOf}
use Rattle.acc_cluster.specs.Stands.{AreActors, faults_at}

-- The second items, newest first, are the first ones, or what one move of an actor adds to them: lost entries, and one item after them.
abbrev pub IsMoveAhead : List Item → List Item → Type 0
IsMoveAhead items more = (more ≡ items) ⊎ ((last : Item) × (lost : List Item) × (more ≡ last ∷ lost ++ items) × IsTrue (list_all is_lost lost))

-- The cluster has entered these items, newest first, and is within the limits. Its actors with their disks stand for the situation, which
-- has these items, or is a move ahead of them: then a disk took a step whose items the limit keeps out.
pub record StopsAt {D : Type 0} (port : Ghosts D) (plan : Content) (cluster : Cluster D) (items : List Item) (reached : Situation) : Type 0 where
  pub entered : Situation
  pub past : IsPastOf cluster.history entered
  pub items_are : entered.own ≡ items
  pub sound : IsSound (cluster_of plan) reached
  pub actors : AreActors port plan cluster.slots.items reached
  pub ahead : IsMoveAhead items reached.own

-- the items that the cluster has entered, newest first
abbrev pub HasEntered : {D : Type 0} → Cluster D → List Item → Type 0
HasEntered cluster items = cluster.history.items.items ≡ reverse items

-- no count of faults has fallen
abbrev pub NoneFell : {D : Type 0} → Ghosts D → Content → Cluster D → Cluster D → Type 0
NoneFell port plan old new = (a : Actor) → Contains (actors plan.topology) a → faults_at port old a ≤ faults_at port new a
