-- What holds of situations in which actors step freely, on the way to items that are served.
use Rattle.std.specs.Prelude.{◌≡◌, ◌≤◌, true, false, List, [], ◌∷◌, ◌++◌, length, reverse, Option, None, Some}
use Rattle.std.specs.List.{AllByRecursion}
use Rattle.acc_stamp.specs.declared.actors.Actor.{Actor}
use Rattle.acc_message.specs.declared.entry.Event.{Event}
use Rattle.acc_message.specs.declared.item.Item.{Item}
use Rattle.acc_message.specs.Items.{same_actor}
use Rattle.acc_message.specs.NodeRules.{Act}
use Rattle.acc_message.specs.Run.{Cluster}
use Rattle.acc_schedule.specs.Content.{Content}
use Rattle.acc_schedule.specs.declared.plan.Step.{Step}
use Rattle.acc_schedule_runs.specs.Situations.{Stopped, Situation, stopped_at}
use Rattle.acc_schedule_runs.specs.Moves.{is_journalled}
use Rattle.acc_schedule_runs.specs.Schedules.{cluster_of}
use Rattle.acc_pasts.specs.Entries.{MayTake}
use Rattle.acc_pasts.specs.Stopped.{IsSound}
use Rattle.acc_free_laws.specs.Commands.{commands_of, is_event_of, is_message}
use Rattle.acc_free_laws.specs.Turns.{Went}
use Rattle.acc_free_laws.specs.FreeRun.{IsUntaken, IsFreeRun}

-- The cluster was opened after nothing and dropped nothing, its items are a free run, and the steps that were stopped can still be
-- entered and took no message that was taken. Of each actor they are those of one append, sixteen at most.
pub record IsServing (plan : Content) (s : Situation) : Type 0 where
  pub earlier : s.earlier ≡ []
  pub dropped : s.dropped ≡ []
  pub sound : IsSound (cluster_of plan) s
  pub free : IsFreeRun plan s.own
  pub untaken : (a : Actor) → AllByRecursion (IsUntaken s.own) (stopped_at a s.stopped)
  pub few : (a : Actor) → length (stopped_at a s.stopped) ≤ 16

-- after the items the actor may take the event, whose step a fault can stop, and its message wasn't taken
pub record MayStop (cluster : Cluster) (items : List Item) (a : Actor) (event : Event) : Type 0 where
  pub act : Act
  pub may : MayTake cluster items a event act
  pub journalled : is_journalled a event ≡ true
  pub untaken : IsUntaken items event

-- what was stopped is the step of the command whose turn entered the last down, or steps of messages
abbrev pub IsStopOf : Option Step → List Event → Type 0
IsStopOf None events = AllByRecursion (λ (event : Event). is_message event ≡ true) events
IsStopOf (Some command) [] = ⊥
IsStopOf (Some command) (event ∷ []) = is_event_of command event ≡ true
IsStopOf (Some command) (event ∷ other ∷ events) = ⊥

-- all commands of the actor but these went by
pub record HasGone (plan : Content) (s : Situation) (a : Actor) (left : List Step) : Type 0 where
  pub gone : List Step
  pub stop : Option Step
  pub split : commands_of plan a ≡ reverse gone ++ left
  pub went : Went a s.own gone stop
  pub stops : IsStopOf stop (stopped_at a s.stopped)

-- the steps that were stopped are the actor's
abbrev pub AreStopsOf : Actor → List Stopped → Type 0
AreStopsOf a stopped = (b : Actor) → same_actor a b ≡ false → stopped_at b stopped ≡ []
