-- The commands that are left of actors.
use Rattle.std.specs.Prelude.{◌≡◌, ℕ, List, drop, length, sum_by, Some, Contains}
use Rattle.std.specs.List.{AllByRecursion, slice_get, IsDistinct}
use Rattle.acc_stamp.specs.declared.actors.Actor.{Actor}
use Rattle.acc_message.specs.declared.item.Item.{Item}
use Rattle.acc_message.specs.Items.{same_actor}
use Rattle.acc_schedule.specs.Actors.{actors}
use Rattle.acc_schedule.specs.Content.{Content}
use Rattle.acc_schedule.specs.declared.plan.Step.{Step}
use Rattle.acc_schedule_runs.specs.Situations.{Situation}
use Rattle.acc_actors.specs.declared.slot.Slot.{Slot}
use Rattle.acc_free_laws.specs.Commands.{IsHeld}
use Rattle.acc_free_laws.specs.Serving.{HasGone}
use Rattle.acc_free_ending.specs.declared.rest.Rest.{Rest}
use Rattle.acc_free_ending.specs.declared.rest.Queue.{Queue}

-- ---- one actor

abbrev pub placed_in : {D : Type 0} → Rest D → Actor × Slot D
placed_in rest = (rest.actor, rest.slot)

abbrev pub queue_in : {D : Type 0} → Rest D → Queue
queue_in rest = record { actor = rest.actor; commands = rest.commands; gone = rest.gone }

-- those that are left
abbrev pub left_in : Queue → List Step
left_in queue = drop queue.gone queue.commands

abbrev pub actor_in : Queue → Actor
actor_in queue = queue.actor

abbrev pub rest_actor : {D : Type 0} → Rest D → Actor
rest_actor rest = rest.actor

-- ---- all of them

-- an actor each, of all actors of the plan
pub record AreAllActors (plan : Content) (names : List Actor) : Type 0 where
  pub known : AllByRecursion (λ a. Contains (actors plan.topology) a) names
  pub each : (a : Actor) → Contains (actors plan.topology) a → Contains names a
  pub apart : IsDistinct same_actor names

-- all other commands of theirs went by
abbrev pub HaveGone : Content → Situation → List Queue → Type 0
HaveGone plan s queues = (place : ℕ) (queue : Queue) → slice_get queues place ≡ Some queue → HasGone plan s queue.actor (left_in queue)

-- none of those that are left can be taken
abbrev pub AreHeld : List Item → List Queue → Type 0
AreHeld items queues = (place : ℕ) (queue : Queue) → slice_get queues place ≡ Some queue → IsHeld items (left_in queue)

-- how many are left
abbrev pub count_in : Queue → ℕ
count_in queue = length (left_in queue)

abbrev pub count_left : List Queue → ℕ
count_left queues = sum_by count_in queues
