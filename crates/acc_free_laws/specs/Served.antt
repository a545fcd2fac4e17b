-- When the items of actors that step freely are complete: every command had its turn but those after a recover of what isn't begun,
-- and every message is taken but those of actors that are down.
use Rattle.std.specs.Prelude.{◌≡◌, Bool, true, false, not, IsTrue, List, [], ◌++◌, reverse, Contains, Option}
use Rattle.std.specs.List.{list_all}
use Rattle.acc_stamp.specs.declared.actors.Actor.{Actor}
use Rattle.acc_message.specs.declared.item.Item.{Item}
use Rattle.acc_message.specs.declared.item.Item.TheVariants.{Step as StepItem, Skipped, Down}
use Rattle.acc_message.specs.Items.{is_begun}
use Rattle.acc_safety.specs.Calm.{is_calm_event}
use Rattle.acc_schedule.specs.Actors.{actors}
use Rattle.acc_schedule.specs.Content.{Content}
use Rattle.acc_schedule.specs.declared.plan.Step.{Step}
use Rattle.acc_schedule.specs.declared.plan.Step.TheVariants.{Begin, Recover}
use Rattle.acc_schedule_runs.specs.Situations.{NothingWaits}
use Rattle.acc_free_laws.specs.Commands.{commands_of, IsHeld}
use Rattle.acc_free_laws.specs.Turns.{Went}
use Rattle.acc_free_laws.specs.FreeRun.{IsFreeRun, alone}

-- the actor's commands went by in the items in their order, and what is left is held
pub record HasServed (plan : Content) (items : List Item) (a : Actor) : Type 0 where
  pub gone : List Step
  pub left : List Step
  pub stop : Option Step
  pub split : commands_of plan a ≡ reverse gone ++ left
  pub went : Went a items gone stop
  pub held : IsHeld items left

-- Every message is taken that isn't lost and whose actor isn't down at the end.
pub record IsServed (plan : Content) (items : List Item) : Type 0 where
  pub free : IsFreeRun plan items
  pub commands : (a : Actor) → Contains (actors plan.topology) a → HasServed plan items a
  pub taken : NothingWaits (alone items [])

-- ---- what follows

-- no recover, no restart and no down
abbrev pub is_quiet : Item → Bool
is_quiet (StepItem e) = is_calm_event e.event
is_quiet (Skipped step cause) = true
is_quiet (Down actor) = false

abbrev pub IsQuiet : List Item → Type 0
IsQuiet items = IsTrue (list_all is_quiet items)

-- no step is a recover
abbrev pub is_recover : Step → Bool
is_recover (Recover txn node) = true
is_recover _ = false

abbrev pub HasNoRecover : List Step → Type 0
HasNoRecover steps = IsTrue (list_all (λ step. not (is_recover step)) steps)

-- what a begin is to begin was begun
abbrev pub IsBegunIn : List Item → Step → Type 0
IsBegunIn items (Begin txn) = is_begun items txn ≡ true
IsBegunIn items _ = Unit {0}
