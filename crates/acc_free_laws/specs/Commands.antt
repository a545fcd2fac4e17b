-- The commands of an actor: the steps of a schedule that it takes by itself, each with what it enters.
use Rattle.std.specs.Prelude.{◌≡◌, ◌⊎◌, ◌==◌, Bool, true, false, List, [], ◌∷◌}
use Rattle.std.specs.List.{filter}
use Rattle.acc_stamp.specs.declared.actors.Actor.{Actor}
use Rattle.acc_stamp.specs.Actor.{actor_of}
use Rattle.acc_message.specs.declared.entry.Event.{Event}
use Rattle.acc_message.specs.declared.entry.Event.TheVariants.{Begin as BeginEvent, Recover as RecoverEvent, Message as MessageEvent, Restart as RestartEvent}
use Rattle.acc_message.specs.declared.item.Item.{Item}
use Rattle.acc_message.specs.Items.{same_actor, is_begun}
use Rattle.acc_message.specs.Run.{Cluster, is_down}
use Rattle.acc_run_laws.specs.Asks.{home_of_txn}
use Rattle.acc_schedule.specs.Content.{Content}
use Rattle.acc_schedule.specs.declared.plan.Step.{Step}
use Rattle.acc_schedule.specs.declared.plan.Step.TheVariants.{Begin, Recover, Restart}
use Rattle.acc_schedule_runs.specs.Schedules.{cluster_of}

-- ---- whose they are

-- a begin is its home's, a recover its node's, and a restart its actor's; all other steps are nobody's
abbrev pub is_command_of : Cluster → Actor → Step → Bool
is_command_of cluster a (Begin txn) = same_actor (home_of_txn cluster txn) a
is_command_of cluster a (Recover txn node) = same_actor (actor_of node 0) a
is_command_of cluster a (Restart actor choice) = same_actor actor a
is_command_of cluster a _ = false

-- those of the plan's schedule, in their order
abbrev pub commands_of : Content → Actor → List Step
commands_of plan a = filter (is_command_of (cluster_of plan) a) plan.steps

-- ---- what they enter

abbrev pub is_restart : Step → Bool
is_restart (Restart actor choice) = true
is_restart _ = false

-- the command enters the event, a restart with whatever it kept
abbrev pub is_event_of : Step → Event → Bool
is_event_of (Begin txn) (BeginEvent number) = txn == number
is_event_of (Recover txn node) (RecoverEvent number) = txn == number
is_event_of (Restart actor choice) (RestartEvent kept) = true
is_event_of _ _ = false

abbrev pub is_message : Event → Bool
is_message (MessageEvent number) = true
is_message _ = false

-- ---- whether they can be taken

-- it is a begin of a begun transaction
abbrev pub BeginsAgain : List Item → Step → Type 0
BeginsAgain items (Begin txn) = is_begun items txn ≡ true
BeginsAgain items _ = ⊥

-- What an actor that is down passes over is anything but a restart; anyone passes over a begin of a begun transaction.
abbrev pub IsPassed : Actor → List Item → Step → Type 0
IsPassed a items command = ((is_down a items ≡ true) × (is_restart command ≡ false)) ⊎ BeginsAgain items command

-- The actor is up, a transaction to begin isn't begun, and one to recover is. A restart can always be taken.
abbrev pub IsReady : Actor → List Item → Step → Type 0
IsReady a items (Begin txn) = (is_down a items ≡ false) × (is_begun items txn ≡ false)
IsReady a items (Recover txn node) = (is_down a items ≡ false) × (is_begun items txn ≡ true)
IsReady a items (Restart actor choice) = Unit {0}
IsReady a items _ = ⊥

-- nothing is left, or a recover of what isn't begun is the first that is
abbrev pub IsHeld : List Item → List Step → Type 0
IsHeld items [] = Unit {0}
IsHeld items (Recover txn node ∷ left) = is_begun items txn ≡ false
IsHeld items _ = ⊥
