-- What each step of a schedule enters, or why it is passed over. What disks answer is given.
use Rattle.std.specs.Prelude.{◌≡◌, ℕ, nat_lt, Bool, true, false, not, ◌&&◌, List, [], ◌∷◌, ◌++◌, length, Option, None, Some}
use Rattle.acc_base.specs.Faults.{or_else}
use Rattle.acc_stamp.specs.declared.actors.Actor.{Actor}
use Rattle.acc_stamp.specs.Actor.{actor_of}
use Rattle.acc_message.specs.declared.entry.Event.{Event}
use Rattle.acc_message.specs.declared.entry.Event.TheVariants.{Begin as BeginEvent, Recover as RecoverEvent, Slow as SlowEvent, Message as MessageEvent, Restart as RestartEvent}
use Rattle.acc_message.specs.declared.item.Skip.{Skip}
use Rattle.acc_message.specs.declared.item.Skip.TheVariants.{NoMessage, Down as IsDown, Begun, Unknown}
use Rattle.acc_message.specs.declared.item.Item.{Item}
use Rattle.acc_message.specs.declared.item.Item.TheVariants.{Step as StepItem, Skipped, Down}
use Rattle.acc_message.specs.Items.{sent_of, is_begun, id_of_txn}
use Rattle.acc_message.specs.Run.{Cluster, act_of, is_node, is_down}
use Rattle.acc_run_laws.specs.Asks.{home_of_txn, skip_if, slow_skip, emits_if}
use Rattle.acc_schedule.specs.declared.plan.Step.{Step}
use Rattle.acc_schedule.specs.declared.plan.Step.TheVariants.{Begin, Deliver, Drop, Recover, Slow, Restart, Fail, Drain}
use Rattle.acc_schedule_runs.specs.Situations.{Stopped, Situation, raised_event, whole, IsOldestWaiting, NothingWaits, receiver_in, stopped_at, without, stops_of}

-- What disks answer, by the place of the item, which is how many of the cluster's own items stand before it: whether the step there,
-- which is to be journalled, or the restart fails; and whether the journal kept the steps that were stopped, where a restart begins there.
pub record Answers : Type 0 where
  pub fails : ℕ → Bool
  pub keeps : ℕ → Bool

-- the answer for the next item
abbrev pub fails_in : Answers → Situation → Bool
fails_in answers s = answers.fails (length s.own)

-- ---- items

abbrev pub with_item : Item → Situation → Situation
with_item item s = record { earlier = s.earlier; own = item ∷ s.own; dropped = s.dropped; stopped = s.stopped }

abbrev pub with_stopped : List Stopped → Situation → Situation
with_stopped stopped s = record { earlier = s.earlier; own = s.own; dropped = s.dropped; stopped = stopped }

-- the event as it stands in the whole past
abbrev pub event_in : Situation → Event → Event
event_in s event = raised_event (length (sent_of s.earlier)) event

-- what the actor does, by the rules and the whole past
abbrev pub entry_of : Cluster → Situation → Actor → Event → Bool → Item
entry_of cluster s a event lost =
    StepItem (record {
      actor = a;
      event = event;
      emitted = emits_if cluster (whole s) a (act_of cluster (whole s) (event_in s event));
      lost = lost;
    })

abbrev pub entered : Cluster → Situation → Actor → Event → Bool → Situation
entered cluster s a event lost = with_item (entry_of cluster s a event lost) s

-- one after another
abbrev pub entered_all : Cluster → Situation → Actor → List Event → Bool → Situation
entered_all cluster s a [] lost = s
entered_all cluster s a (event ∷ events) lost = entered_all cluster (entered cluster s a event lost) a events lost

-- ---- steps of actors

-- begins, recovers and the messages that stores take are journalled
abbrev pub is_journalled : Actor → Event → Bool
is_journalled a (BeginEvent txn) = true
is_journalled a (RecoverEvent txn) = true
is_journalled a (SlowEvent txn) = false
is_journalled a (MessageEvent number) = not (is_node a)
is_journalled a (RestartEvent kept) = false

-- the actor goes down, and these steps of it are stopped: those of one append, the oldest first
abbrev pub stopped_by : Actor → List Event → Situation → Situation
stopped_by a events s = with_stopped (stops_of a events ++ without a s.stopped) (with_item (Down a) s)

abbrev pub tried_if : Bool → Cluster → Situation → Actor → Event → Situation
tried_if true cluster s a event = stopped_by a (event ∷ []) s
tried_if false cluster s a event = entered cluster s a event false

-- an actor's step, which its disk can stop if it is journalled
abbrev pub tried : Cluster → Answers → Situation → Actor → Event → Situation
tried cluster answers s a event = tried_if (is_journalled a event && fails_in answers s) cluster s a event

abbrev pub stepped_unless : Option Skip → Cluster → Answers → ℕ → Situation → Actor → Event → Situation
stepped_unless (Some cause) cluster answers number s a event = with_item (Skipped number cause) s
stepped_unless None cluster answers number s a event = tried cluster answers s a event

-- ---- what is passed over: the first condition that holds

abbrev pub down_skip : Situation → Actor → Option Skip
down_skip s a = skip_if (is_down a (whole s)) (IsDown a)

abbrev pub begin_skip : Cluster → Situation → ℕ → Option Skip
begin_skip cluster s txn = or_else (down_skip s (home_of_txn cluster txn)) (skip_if (is_begun (whole s) txn) (Begun txn))

abbrev pub recover_skip : Situation → ℕ → ℕ → Option Skip
recover_skip s txn node = or_else (down_skip s (actor_of node 0)) (skip_if (not (is_begun (whole s) txn)) (Unknown txn))

abbrev pub slowing_skip : Cluster → Situation → ℕ → Option Skip
slowing_skip cluster s txn =
    or_else (down_skip s (home_of_txn cluster txn)) (slow_skip cluster (whole s) txn (id_of_txn (whole s) txn))

abbrev pub message_skip : Situation → ℕ → Option Skip
message_skip s message =
    skip_if (not (nat_lt message (length (sent_of s.own)))) (NoMessage message (length (sent_of s.own)))

abbrev pub deliver_skip : Situation → ℕ → Option Skip
deliver_skip s message = or_else (message_skip s message) (down_skip s (receiver_in s message))

-- ---- drops and restarts

abbrev pub dropped_unless : Option Skip → ℕ → Situation → ℕ → Situation
dropped_unless (Some cause) number s message = with_item (Skipped number cause) s
dropped_unless None number s message =
    record { earlier = s.earlier; own = s.own; dropped = message ∷ s.dropped; stopped = s.stopped }

-- the steps that were stopped, if the journal kept them: all or none
abbrev pub kept_if : Bool → Actor → Situation → List Event
kept_if true a s = stopped_at a s.stopped
kept_if false a s = []

-- What was kept is entered as lost, the oldest first, and then the restart with how many they are. The actor has no stopped step any more.
abbrev pub with_kept : Cluster → Situation → Actor → List Event → Situation
with_kept cluster s a kept = entered_all cluster s a kept true

abbrev pub reopened : Cluster → Situation → Actor → List Event → Situation
reopened cluster s a kept =
    with_stopped (without a s.stopped) (entered cluster (with_kept cluster s a kept) a (RestartEvent (length kept)) false)

abbrev pub restarted_if : Bool → Cluster → Answers → Situation → Actor → Situation
restarted_if true cluster answers s a = with_item (Down a) s
restarted_if false cluster answers s a = reopened cluster s a (kept_if (answers.keeps (length s.own)) a s)

-- ---- steps of a schedule

-- the oldest waiting message is delivered, as long as there is one
pub data Drains (cluster : Cluster) (answers : Answers) (last : Situation) : Situation → Type 0 where
  stops : (s : Situation) → NothingWaits s → last ≡ s → Drains cluster answers last s
  delivers : (s : Situation) (message : ℕ) → IsOldestWaiting s message
      → Drains cluster answers last (tried cluster answers s (receiver_in s message) (MessageEvent message)) → Drains cluster answers last s

-- the step of the schedule with this number takes the situation to the next one
abbrev pub IsNext : Cluster → Answers → ℕ → Step → Situation → Situation → Type 0
IsNext cluster answers number (Begin txn) s next =
    next ≡ stepped_unless (begin_skip cluster s txn) cluster answers number s (home_of_txn cluster txn) (BeginEvent txn)
IsNext cluster answers number (Recover txn node) s next =
    next ≡ stepped_unless (recover_skip s txn node) cluster answers number s (actor_of node 0) (RecoverEvent txn)
IsNext cluster answers number (Slow txn) s next =
    next ≡ stepped_unless (slowing_skip cluster s txn) cluster answers number s (home_of_txn cluster txn) (SlowEvent txn)
IsNext cluster answers number (Deliver message) s next =
    next ≡ stepped_unless (deliver_skip s message) cluster answers number s (receiver_in s message) (MessageEvent message)
IsNext cluster answers number (Drop message) s next = next ≡ dropped_unless (message_skip s message) number s message
IsNext cluster answers number (Fail actor calls) s next = next ≡ s
IsNext cluster answers number (Restart actor choice) s next = next ≡ restarted_if (fails_in answers s) cluster answers s actor
IsNext cluster answers number Drain s next = Drains cluster answers next s
