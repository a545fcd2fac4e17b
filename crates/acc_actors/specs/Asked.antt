-- When an actor may be asked for a step, and what it answers.
use Rattle.std.specs.Prelude.{◌≡◌, ℕ, ◌+◌, ◌<◌, ◌≤◌, ◌^◌, Bool, true, false, ◌&&◌, List, [], ◌∷◌, ◌≢◌, length, Option, None, Some, is_none, Result, Ok, IfOk, OnErr}
use Rattle.std.specs.List.{AllByRecursion}
use Rattle.acc_base.specs.declared.memory.OutOfMemory.{OutOfMemory as NoMemory}
use Rattle.acc_stamp.specs.declared.actors.Actor.{Actor}
use Rattle.acc_ports.specs.declared.disk.Disk.{Ghosts}
use Rattle.acc_ports.specs.Faults.{CountsFaults}
use Rattle.acc_message.specs.declared.entry.Event.{Event}
use Rattle.acc_message.specs.declared.entry.Emitted.{Emitted}
use Rattle.acc_message.specs.declared.item.Skip.{Skip}
use Rattle.acc_message.specs.declared.item.Skip.TheVariants as skips
use Rattle.acc_message.specs.declared.item.Item.TheVariants.{Down}
use Rattle.acc_message.specs.Items.{id_of_txn}
use Rattle.acc_message.specs.NodeRules.{Act}
use Rattle.acc_message.specs.Run.{Cluster, act_of, is_node, is_down, IsHomeOf}
use Rattle.acc_message_code.specs.Weight.{weight_of}
use Rattle.acc_node.specs.declared.error.NodeError.{NodeError}
use Rattle.acc_node.specs.declared.error.NodeError.TheVariants.{Begun, Unknown, NoQuorum, OutOfMemory}
use Rattle.acc_journal.specs.Journal.{keeps_group}
use Rattle.acc_payloads.specs.Stops.{some}
use Rattle.acc_payloads.specs.declared.stops.Unsent.{Unsent}
use Rattle.acc_payloads.specs.declared.stops.Restarted.{Restarted}
use Rattle.acc_payloads.specs.declared.stops.Restarted.TheVariants.{Up, Down as RestartedDown}
use Rattle.acc_run_laws.specs.Asks.{emits_if, slow_skip}
use Rattle.acc_pasts.specs.Entries.{MayTake}
use Rattle.acc_pasts.specs.Stopped.{IsSound}
use Rattle.acc_schedule.specs.Content.{Content}
use Rattle.acc_schedule_runs.specs.Situations.{Situation, whole, stopped_at}
use Rattle.acc_schedule_runs.specs.Moves.{with_item, event_in, entry_of, entered, entered_all, is_journalled, stopped_by, tried_if, kept_if, reopened}
use Rattle.acc_schedule_runs.specs.Schedules.{cluster_of}
use Rattle.acc_payloads.specs.Appends.{fails_append}
use Rattle.acc_schedule_runs.specs.Disks.{Disks, after_step, after_restart}
use Rattle.acc_schedule_runs.specs.StrictMoves.{StrictSituation}
use Rattle.acc_schedule_runs.specs.Limits.{most_items}
use Rattle.acc_actors.specs.Slots.{SlotStages, SlotStands, IsStrictSlot, StaysIn, faults_in, is_down_in}
use Rattle.acc_actors.specs.declared.slot.Slot.{Slot}

-- room for counting as many items as a run may have after the earlier run
abbrev pub HasRoom : Situation → Type 0
HasRoom s = length s.earlier + most_items < 2 ^ 31

-- so few items that all that calls ask of heights and lengths holds
abbrev pub IsFew : Situation → Type 0
IsFew s = HasRoom s × (length s.own ≤ most_items)

-- a step that an actor is asked for: by this event it takes this
pub record ActorStep : Type 0 where
  pub actor : Actor
  pub event : Event
  pub act : Act

abbrev pub step_by : Actor → Event → Act → ActorStep
step_by a event act = record { actor = a; event = event; act = act }

-- a situation over strict disks
abbrev pub over_disks : Situation → Disks → StrictSituation
over_disks s disks = record { found = s; disks = disks }

-- the actor in the slot is up, and may take the event
pub record IsAsked {D : Type 0} (port : Ghosts D) (plan : Content) (s : Situation) (step : ActorStep) (slot : Slot D) : Type 0 where
  pub sound : IsSound (cluster_of plan) s
  pub few : IsFew s
  pub stands : SlotStands port plan s step.actor slot
  pub up : is_down step.actor (whole s) ≡ false
  pub may : MayTake (cluster_of plan) (whole s) step.actor (event_in s step.event) step.act

-- it gives what the rules say, if anything
abbrev pub IsEmitted : Cluster → Situation → Actor → Event → Option Emitted → Type 0
IsEmitted cluster s a event None = is_journalled a event ≡ true
IsEmitted cluster s a event (Some emitted) = emitted ≡ emits_if cluster (whole s) a (act_of cluster (whole s) (event_in s event))

-- the slot's actor took it, or went down by it
pub record HasTried {D : Type 0} (port : Ghosts D) (plan : Content) (s : Situation) (a : Actor) (event : Event) (slot : Slot D) (given : Option Emitted) : Type 0 where
  pub emitted : IsEmitted (cluster_of plan) s a event given
  pub stands : SlotStands port plan (tried_if (is_none given) (cluster_of plan) s a event) a slot

-- over a strict disk, which fails just where its armed call is one of the append
pub record HasTriedStrictly {D : Type 0} (port : Ghosts D) (plan : Content) (at : StrictSituation) (a : Actor) (event : Event) (slot : Slot D) (given : Option Emitted) : Type 0 where
  pub fails : is_none given ≡ (is_journalled a event && fails_append (at.disks.armed a))
  pub strictly : IsStrictSlot port plan (tried_if (is_none given) (cluster_of plan) at.found a event) (after_step (is_journalled a event) a at.disks) a slot

abbrev pub MayAsk : {D : Type 0} → Ghosts D → Content → ActorStep → Slot D → Type 0
MayAsk port plan step slot = (s : Situation) × IsAsked port plan s step slot

-- What an actor that was asked for a step answers, and what it leaves. Where memory was refused, all is as before, or its journal broke
-- and it is down: then nothing but the disk's count is known.
pub record HasAnswered {D : Type 0} (port : Ghosts D) (plan : Content) (step : ActorStep) (old new : Slot D) (result : Result (Option Emitted) NoMemory) : Type 0 where
  pub ok : IfOk result (λ given. (s : Situation) → IsAsked port plan s step old → HasTried port plan s step.actor step.event new given)
  pub strict : IfOk result (λ given. (s : Situation) (disks : Disks) → IsAsked port plan s step old → IsStrictSlot port plan s disks step.actor old
      → HasTriedStrictly port plan (over_disks s disks) step.actor step.event new given)
  pub refused : OnErr result (is_down_in new ≡ false → StaysIn port plan step.actor old new)
  pub faults : CountsFaults (result ≡ Ok None) (faults_in port old) (faults_in port new)

-- so many bytes of encoded messages would go out for the step
abbrev pub Weighs : {D : Type 0} → Ghosts D → Content → ActorStep → Slot D → ℕ → Type 0
Weighs port plan step slot weight =
    (s : Situation) → IsAsked port plan s step slot → weight ≡ weight_of (entry_of (cluster_of plan) s step.actor step.event false)

-- ---- groups

-- These are the steps by the events, in their order, each with what the rules say that it gives after the entries of those before it.
abbrev pub AreSteps : Cluster → Situation → Actor → List Event → Bool → List Unsent → Type 0
AreSteps cluster s a [] lost [] = Unit {0}
AreSteps cluster s a [] lost (unsent ∷ others) = ⊥
AreSteps cluster s a (event ∷ events) lost [] = ⊥
AreSteps cluster s a (event ∷ events) lost (unsent ∷ others) =
    (unsent.event ≡ event)
    × (unsent.emitted ≡ emits_if cluster (whole s) a (act_of cluster (whole s) (event_in s event)))
    × AreSteps cluster (entered cluster s a event lost) a events lost others

-- few enough with so many entries more
abbrev pub IsFewBehind : Situation → List Event → Type 0
IsFewBehind s events = IsFew s × (length s.earlier + length s.own + length events < 2 ^ 31)

-- each of the events may be taken, whatever others enter before, and is journalled
abbrev pub MayTakeEach : Cluster → Situation → Actor → List Event → Type 0
MayTakeEach cluster s a events =
    AllByRecursion (λ (event : Event). (act : Act) × MayTake cluster (whole s) a (event_in s event) act × (is_journalled a event ≡ true)) events

-- the actor in the slot is up, and has taken these events after its past, in memory alone
pub record IsStaged {D : Type 0} (port : Ghosts D) (plan : Content) (s : Situation) (a : Actor) (staged : List Event) (slot : Slot D) : Type 0 where
  pub sound : IsSound (cluster_of plan) s
  pub few : IsFewBehind s staged
  pub stands : SlotStages port plan s a staged slot
  pub up : is_down a (whole s) ≡ false
  pub each : MayTakeEach (cluster_of plan) s a staged

-- after these events it may take one more
pub record IsAskedBehind {D : Type 0} (port : Ghosts D) (plan : Content) (s : Situation) (staged : List Event) (step : ActorStep) (slot : Slot D) : Type 0 where
  pub behind : IsStaged port plan s step.actor staged slot
  pub may : MayTake (cluster_of plan) (whole s) step.actor (event_in s step.event) step.act

abbrev pub MayAskBehind : {D : Type 0} → Ghosts D → Content → ActorStep → Slot D → Type 0
MayAskBehind port plan step slot = (s : Situation) × (staged : List Event) × IsAskedBehind port plan s staged step slot

-- so many bytes of encoded messages would go out for it, after what is staged
abbrev pub WeighsBehind : {D : Type 0} → Ghosts D → Content → ActorStep → Slot D → ℕ → Type 0
WeighsBehind port plan step slot weight =
    (s : Situation) (staged : List Event) → IsAskedBehind port plan s staged step slot
    → weight ≡ weight_of (entry_of (cluster_of plan) (entered_all (cluster_of plan) s step.actor staged false) step.actor step.event false)

-- what a group gives is what the rules say of each event, after the entries of those before it
abbrev pub AreGiven : Cluster → Situation → Actor → List Event → Option (List Unsent) → Type 0
AreGiven cluster s a staged None = Unit {0}
AreGiven cluster s a staged (Some given) = AreSteps cluster s a staged false given

-- the events are entered, or a fault of the disk stops all of them
abbrev pub settled_if : Bool → Cluster → Situation → Actor → List Event → Situation
settled_if true cluster s a events = stopped_by a events s
settled_if false cluster s a events = entered_all cluster s a events false

-- the slot's actor took all that was staged, or went down by it
pub record HasSettled {D : Type 0} (port : Ghosts D) (plan : Content) (s : Situation) (a : Actor) (staged : List Event) (slot : Slot D) (given : Option (List Unsent)) : Type 0 where
  pub given_are : AreGiven (cluster_of plan) s a staged given
  pub stands : SlotStands port plan (settled_if (is_none given) (cluster_of plan) s a staged) a slot

-- over a strict disk, which fails just where its armed call is one of the append
pub record HasSettledStrictly {D : Type 0} (port : Ghosts D) (plan : Content) (at : StrictSituation) (a : Actor) (staged : List Event) (slot : Slot D) (given : Option (List Unsent)) : Type 0 where
  pub fails : is_none given ≡ fails_append (at.disks.armed a)
  pub strictly : IsStrictSlot port plan (settled_if (is_none given) (cluster_of plan) at.found a staged) (after_step true a at.disks) a slot

-- What an actor answers that was asked to settle, and what it leaves. Where memory was refused, a store is down, as its journal broke.
pub record HasAnsweredAll {D : Type 0} (port : Ghosts D) (plan : Content) (a : Actor) (old new : Slot D) (result : Result (Option (List Unsent)) NoMemory) : Type 0 where
  pub ok : IfOk result (λ given. (s : Situation) (staged : List Event) → IsStaged port plan s a staged old → HasSettled port plan s a staged new given)
  pub strict : IfOk result (λ given. (s : Situation) (staged : List Event) (disks : Disks) → IsStaged port plan s a staged old → staged ≢ [] → IsStrictSlot port plan s disks a old
      → HasSettledStrictly port plan (over_disks s disks) a staged new given)
  pub refused : OnErr result (is_node a ≡ false → is_down_in new ≡ true)
  pub faults : CountsFaults (result ≡ Ok None) (faults_in port old) (faults_in port new)

-- ---- slowing

-- the home of the transaction is up
pub record IsHomeUp {D : Type 0} (port : Ghosts D) (plan : Content) (s : Situation) (a : Actor) (txn : ℕ) (slot : Slot D) : Type 0 where
  pub sound : IsSound (cluster_of plan) s
  pub stands : SlotStands port plan s a slot
  pub up : is_down a (whole s) ≡ false
  pub home : IsHomeOf (cluster_of plan) txn a

abbrev pub skips_slow : Content → Situation → ℕ → Option Skip
skips_slow plan s txn = slow_skip (cluster_of plan) (whole s) txn (id_of_txn (whole s) txn)

-- why it isn't slowed down
abbrev pub IsSlowRefused : Content → Situation → ℕ → NodeError → Type 0
IsSlowRefused plan s txn Unknown = skips_slow plan s txn ≡ Some (skips.Unknown txn)
IsSlowRefused plan s txn NoQuorum = skips_slow plan s txn ≡ Some (skips.NoQuorum txn)
IsSlowRefused plan s txn Begun = ⊥
IsSlowRefused plan s txn OutOfMemory = Unit {0}

-- ---- restarts

-- what was kept is nothing, or all the steps that were stopped
abbrev pub AreKeptSteps : Cluster → Situation → Actor → List Unsent → Type 0
AreKeptSteps cluster s a [] = Unit {0}
AreKeptSteps cluster s a (unsent ∷ others) = AreSteps cluster s a (stopped_at a s.stopped) true (unsent ∷ others)

abbrev pub HasRestartedAt : {D : Type 0} → Ghosts D → Content → Situation → Actor → Restarted → Slot D → Type 0
HasRestartedAt port plan s a (Up kept) slot =
    AreKeptSteps (cluster_of plan) s a kept × SlotStands port plan (reopened (cluster_of plan) s a (kept_if (some kept) a s)) a slot
HasRestartedAt port plan s a RestartedDown slot = SlotStands port plan (with_item (Down a) s) a slot

abbrev pub HasRestartedStrictlyAt : {D : Type 0} → Ghosts D → Content → StrictSituation → Actor → ℕ → Restarted → Slot D → Type 0
HasRestartedStrictlyAt port plan at a choice (Up kept) slot =
    (kept_if (some kept) a at.found ≡ kept_if (keeps_group (at.disks.passed a) choice) a at.found)
    × IsStrictSlot port plan (reopened (cluster_of plan) at.found a (kept_if (some kept) a at.found)) (after_restart a at.disks) a slot
HasRestartedStrictlyAt port plan at a choice RestartedDown slot = ⊥
