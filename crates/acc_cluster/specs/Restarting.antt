-- What a restart finds at the actor's number, and what entering it comes to.
use Rattle.std.specs.Prelude.{◌≡◌, ℕ, nat_lt, Bool, true, false, IsTrue, List, [], ◌∷◌, ◌++◌}
use Rattle.std.specs.List.{AllByRecursion, list_all}
use Rattle.acc_stamp.specs.declared.actors.Actor.{Actor}
use Rattle.acc_ports.specs.declared.disk.Disk.{Ghosts}
use Rattle.acc_ports.specs.Faults.{Rose}
use Rattle.acc_message.specs.declared.entry.Event.{Event}
use Rattle.acc_message.specs.declared.entry.Event.TheVariants.{Message}
use Rattle.acc_message.specs.declared.error.Which.{Which}
use Rattle.acc_message.specs.declared.item.Item.{Item}
use Rattle.acc_message.specs.Items.{same_actor}
use Rattle.acc_message.specs.Run.{Cluster}
use Rattle.acc_payloads.specs.Stops.{some}
use Rattle.acc_payloads.specs.declared.stops.Unsent.{Unsent}
use Rattle.acc_payloads.specs.declared.stops.Restarted.{Restarted}
use Rattle.acc_payloads.specs.declared.stops.Restarted.TheVariants.{Down}
use Rattle.acc_run_laws.specs.Sends.{AreSendable}
use Rattle.acc_schedule.specs.Content.{Content}
use Rattle.acc_schedule_runs.specs.Situations.{Situation, is_lost}
use Rattle.acc_schedule_runs.specs.Moves.{with_item, kept_if, reopened}
use Rattle.acc_history.specs.declared.history.History.{History}
use Rattle.acc_history.specs.Stands.{EventTakesSent}
use Rattle.acc_history.specs.Stands as history
use Rattle.acc_schedule_runs.specs.Disks.{Disks}
use Rattle.acc_schedule_runs.specs.Limits.{EndsAt}
use Rattle.acc_schedule_runs.specs.Fronts.{Begins}
use Rattle.acc_actors.specs.declared.slot.Slot.{Slot}
use Rattle.acc_actors.specs.Slots.{IsStrictSlot, faults_in}
use Rattle.acc_actors.specs.Asked.{over_disks, HasRestartedAt, HasRestartedStrictlyAt}
use Rattle.acc_cluster.specs.Entering.{HasPlace, IsPastOf, step_item}
use Rattle.acc_cluster.specs.Limits.{IsMoveAhead}
use Rattle.acc_cluster.specs.Stands.{slot_at}
use Rattle.acc_cluster.specs.Steps.{Change}

-- The actor has restarted in its slot, and the other slots are as before.
pub record HasReopened {D : Type 0} (port : Ghosts D) (plan : Content) (a : Actor) (choice : ℕ) (slots : Change (List (Slot D))) (found : Restarted) (s : Situation) : Type 0 where
  pub others : (b : Actor) → same_actor a b ≡ false → slot_at slots.new b ≡ slot_at slots.old b
  pub restarted : HasRestartedAt port plan s a found (slot_at slots.new a)
  pub strictly :
      (disks : Disks) → IsStrictSlot port plan s disks a (slot_at slots.old a)
      → HasRestartedStrictlyAt port plan (over_disks s disks) a choice found (slot_at slots.new a)
  pub cause : found ≡ Down → Rose (faults_in port (slot_at slots.old a)) (faults_in port (slot_at slots.new a))

-- the situation after a restart that kept this
abbrev pub come_up : Cluster → Situation → Actor → List Unsent → Situation
come_up cluster s a kept = reopened cluster s a (kept_if (some kept) a s)

-- A limit ends the run after some items of the restart's, which the history has entered. The others are lost entries and the restart.
pub record EndsInRestart (h : History) (cluster : Cluster) (s : Situation) (a : Actor) (kept : List Unsent) (which : Which) (limit : ℕ) : Type 0 where
  pub entered : Situation
  pub past : IsPastOf h entered
  pub ahead : IsMoveAhead entered.own (come_up cluster s a kept).own
  pub ends : EndsAt (λ front. Begins front (come_up cluster s a kept).own) entered.own which limit

-- ---- what was kept, as it is entered

-- the lost entry of a step
abbrev pub lost_item : Actor → Unsent → Item
lost_item a unsent = step_item a unsent.event unsent.emitted true

-- one after another
abbrev pub with_lost : Actor → List Unsent → Situation → Situation
with_lost a [] s = s
with_lost a (unsent ∷ others) s = with_lost a others (with_item (lost_item a unsent) s)

-- as long as there is a place, the messages of each can be sent
abbrev pub AreSendableBehind : Actor → List Unsent → Situation → Type 0
AreSendableBehind a [] s = Unit {0}
AreSendableBehind a (unsent ∷ others) s = (HasPlace s → AreSendable unsent.emitted.out) × AreSendableBehind a others (with_item (lost_item a unsent) s)

-- after this past each may be entered
pub record CanComeBack (h : History) (a : Actor) (kept : List Unsent) (s : Situation) : Type 0 where
  pub past : IsPastOf h s
  pub place : HasPlace s
  pub taken : AllByRecursion (λ unsent. EventTakesSent s unsent.event) kept

-- the event takes one of the first messages, of which there are so many, if any
abbrev pub takes_below : ℕ → Event → Bool
takes_below sent (Message number) = nat_lt number sent
takes_below sent event = true

-- whatever the history stands for, the step takes a message that was sent, if any, and its messages can be sent
pub record CanBeEntered (h : History) (unsent : Unsent) : Type 0 where
  pub takes : (s : Situation) → history.StandsFor h s → EventTakesSent s unsent.event
  pub sends : AreSendable unsent.emitted.out

-- these lost entries are missing, newest first
pub record AreMissing (items all : List Item) : Type 0 where
  pub missing : List Item
  pub all_are : all ≡ missing ++ items
  pub lost : IsTrue (list_all is_lost missing)

-- A limit ends it before one of them, or before the item after them. The history has entered those before it.
pub record EndsInLost (h : History) (s : Situation) (a : Actor) (kept : List Unsent) (which : Which) (limit : ℕ) : Type 0 where
  pub entered : Situation
  pub past : IsPastOf h entered
  pub ahead : AreMissing entered.own (with_lost a kept s).own
  pub ends : (next : Item) → EndsAt (λ front. Begins front (next ∷ (with_lost a kept s).own)) entered.own which limit
