-- Steps that faults of disks stopped can still be entered.
use Rattle.std.specs.Prelude.{◌≡◌, ◌≢◌, Bool, true, not, List, [], ◌∷◌}
use Rattle.std.specs.List.{AllByRecursion}
use Rattle.acc_stamp.specs.declared.actors.Actor.{Actor}
use Rattle.acc_message.specs.declared.entry.Event.{Event}
use Rattle.acc_message.specs.declared.item.Item.{Item}
use Rattle.acc_message.specs.declared.item.Item.TheVariants.{Step, Skipped, Down}
use Rattle.acc_message.specs.Items.{same_actor}
use Rattle.acc_message.specs.NodeRules.{Act}
use Rattle.acc_message.specs.Run.{Cluster, act_of, is_down, IsRun}
use Rattle.acc_safety.specs.Valid.{IsValidCluster}
use Rattle.acc_run_laws.specs.Sends.{HasFewBodies}
use Rattle.acc_schedule_runs.specs.Situations.{Situation, whole, stopped_at}
use Rattle.acc_schedule_runs.specs.Moves.{event_in, is_journalled}
use Rattle.acc_pasts.specs.Entries.{emitted_for, payload_for, entering, MayTake}

-- the item is no entry of the actor
abbrev pub is_other : Actor → Item → Bool
is_other a (Step e) = not (same_actor e.actor a)
is_other a (Skipped step cause) = true
is_other a (Down actor) = true

-- the actor is down, and may take the event
pub record CanGoOn (cluster : Cluster) (items : List Item) (a : Actor) (event : Event) : Type 0 where
  pub down : is_down a items ≡ true
  pub journalled : is_journalled a event ≡ true
  pub act : Act
  pub may : MayTake cluster items a event act

-- no event stands there twice
abbrev pub AreDifferent : List Event → Type 0
AreDifferent [] = Unit {0}
AreDifferent (event ∷ events) = AllByRecursion (λ (other : Event). event ≢ other) events × AreDifferent events

-- Each event of the actor can go on, and none is there twice: so they can be entered one after another, whatever others enter before.
abbrev pub CanAllGoOn : Cluster → Situation → Actor → List Event → Type 0
CanAllGoOn cluster s a events = AllByRecursion (λ (event : Event). CanGoOn cluster (whole s) a (event_in s event)) events × AreDifferent events

-- The whole past of a valid cluster whose messages fit their format is a run, and the steps that were stopped can still be entered.
pub record IsSound (cluster : Cluster) (s : Situation) : Type 0 where
  pub valid : IsValidCluster cluster
  pub few_bodies : HasFewBodies cluster
  pub run : IsRun cluster (whole s)
  pub stopped : (a : Actor) → CanAllGoOn cluster s a (stopped_at a s.stopped)

-- what its entry would be is the same
pub record IsSameStep (cluster : Cluster) (before now : List Item) (a : Actor) (event : Event) : Type 0 where
  pub act : act_of cluster now event ≡ act_of cluster before event
  pub emitted : emitted_for cluster now a event ≡ emitted_for cluster before a event
  pub payload : payload_for cluster now a event ≡ payload_for cluster before a event

-- what the entries of the events would be is the same, each after those of the events before it
abbrev pub AreSameSteps : Cluster → List Item → List Item → Actor → List Event → Bool → Type 0
AreSameSteps cluster before now a [] lost = Unit {0}
AreSameSteps cluster before now a (event ∷ events) lost =
    IsSameStep cluster before now a event
    × AreSameSteps cluster (entering cluster before a event lost ∷ before) (entering cluster now a event lost ∷ now) a events lost
