-- The store of an actor, as it is looked at.
use Rattle.std.specs.Prelude.{◌≡◌, false, Contains}
use Rattle.acc_stamp.specs.declared.actors.Actor.{Actor}
use Rattle.acc_message.specs.Run.{taken_of, is_node, is_down}
use Rattle.acc_store.specs.declared.store.Store.{Store}
use Rattle.acc_store.specs.Stands as store
use Rattle.acc_schedule.specs.Actors.{actors}
use Rattle.acc_schedule.specs.Content.{Content}
use Rattle.acc_schedule_runs.specs.Situations.{Situation, whole}
use Rattle.acc_schedule_runs.specs.Schedules.{cluster_of}

-- the actor is a store of the plan, and is up
pub record IsStoreUp (plan : Content) (s : Situation) (a : Actor) : Type 0 where
  pub member : Contains (actors plan.topology) a
  pub kind : is_node a ≡ false
  pub up : is_down a (whole s) ≡ false

-- this is what stands there: what the rules make of all that the actor took
pub record IsStoreOf (plan : Content) (s : Situation) (a : Actor) (t : Store) : Type 0 where
  pub actor_is : store.actor_of t ≡ a
  pub stands : store.StandsFor plan.topology t (taken_of (cluster_of plan) a (whole s))
