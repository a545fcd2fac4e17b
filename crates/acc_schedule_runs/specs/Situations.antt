-- What a step of a schedule finds, and which messages wait there.
use Rattle.std.specs.Prelude.{◌≡◌, ℕ, ◌+◌, ◌<◌, nat_lt, cond, Bool, true, false, not, ◌&&◌, ◌||◌, IsTrue, List, [], ◌∷◌, length, map, filter}
use Rattle.std.specs.List.{list_any}
use Rattle.acc_stamp.specs.declared.actors.Actor.{Actor}
use Rattle.acc_topology.specs.Sets.{is_among}
use Rattle.acc_message.specs.declared.entry.Event.{Event}
use Rattle.acc_message.specs.declared.entry.Event.TheVariants.{Begin, Recover, Slow, Message, Restart}
use Rattle.acc_message.specs.declared.item.Item.{Item}
use Rattle.acc_message.specs.declared.item.Item.TheVariants.{Step, Skipped, Down}
use Rattle.acc_message.specs.Items.{same_actor, sent_of, message_at}
use Rattle.acc_message.specs.Run.{is_down}
use Rattle.acc_safety.specs.Calm.{item_takes}
use Rattle.acc_run_laws.specs.Asks.{receiver}

-- a fault of the actor's disk stopped this step of it
pub record Stopped : Type 0 where
  pub actor : Actor
  pub event : Event

-- The run that stood before the cluster was opened, the cluster's own items since, newest first, the numbers of the messages that
-- were dropped, and the steps that faults of disks stopped, of each actor the oldest first. Own items and drops count the cluster's own
-- messages alone.
pub record Situation : Type 0 where
  pub earlier : List Item
  pub own : List Item
  pub dropped : List ℕ
  pub stopped : List Stopped

-- a cluster that was opened after a run
abbrev pub opened : List Item → Situation
opened earlier = record { earlier = earlier; own = []; dropped = []; stopped = [] }

-- ---- the whole past

-- the event among items that stand after so many messages
abbrev pub raised_event : ℕ → Event → Event
raised_event by (Begin txn) = Begin txn
raised_event by (Recover txn) = Recover txn
raised_event by (Slow txn) = Slow txn
raised_event by (Message number) = Message (by + number)
raised_event by (Restart kept) = Restart kept

abbrev pub raised : ℕ → Item → Item
raised by (Step e) = Step (record { actor = e.actor; event = raised_event by e.event; emitted = e.emitted; lost = e.lost })
raised by (Skipped step cause) = Skipped step cause
raised by (Down actor) = Down actor

-- the second items, which count their own messages, after the first ones
abbrev pub joined : List Item → List Item → List Item
joined earlier [] = earlier
joined earlier (item ∷ own) = raised (length (sent_of earlier)) item ∷ joined earlier own

abbrev pub whole : Situation → List Item
whole s = joined s.earlier s.own

-- ---- messages that wait

abbrev pub is_lost : Item → Bool
is_lost (Step e) = e.lost
is_lost (Skipped step cause) = false
is_lost (Down actor) = false

-- the entry that sent the message with this number is lost
abbrev pub is_sent_lost : List Item → ℕ → Bool
is_sent_lost [] number = false
is_sent_lost (item ∷ earlier) number = cond (nat_lt number (length (sent_of earlier))) (is_sent_lost earlier number) (is_lost item)

abbrev pub receiver_in : Situation → ℕ → Actor
receiver_in s number = receiver (message_at s.own number)

-- the message was taken, dropped or lost
abbrev pub is_through : Situation → ℕ → Bool
is_through s number = list_any (item_takes number) s.own || (is_among s.dropped number || is_sent_lost s.own number)

-- the message was sent, isn't through, and its actor is up
abbrev pub waits : Situation → ℕ → Bool
waits s number =
    nat_lt number (length (sent_of s.own)) && (not (is_through s number) && not (is_down (receiver_in s number) (whole s)))

abbrev pub NothingWaits : Situation → Type 0
NothingWaits s = (number : ℕ) → waits s number ≡ false

abbrev pub IsOldestWaiting : Situation → ℕ → Type 0
IsOldestWaiting s number = IsTrue (waits s number) × ((older : ℕ) → older < number → waits s older ≡ false)

-- ---- steps that were stopped

-- the steps of the actor that were stopped, the oldest first
abbrev pub stopped_at : Actor → List Stopped → List Event
stopped_at a stopped = map (λ (one : Stopped). one.event) (filter (λ (one : Stopped). same_actor one.actor a) stopped)

-- those of the other actors
abbrev pub without : Actor → List Stopped → List Stopped
without a stopped = filter (λ (one : Stopped). not (same_actor one.actor a)) stopped

-- these of the actor
abbrev pub stops_of : Actor → List Event → List Stopped
stops_of a events = map (λ (event : Event). record { actor = a; event = event }) events
