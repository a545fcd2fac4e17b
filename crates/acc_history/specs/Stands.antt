-- What a history stands for: the own items of a situation, what was dropped, and what was begun before.
--     StandsFor h s      the history stands for this situation
--     IsWeighed h s      it has the weight of the own items
use Rattle.std.specs.Prelude.{◌≡◌, ℕ, ◌<◌, ◌≤◌, ◌^◌, false, not, ◌||◌, List, [], ◌∷◌, ◌++◌, Option, length, reverse, All}
use Rattle.std.specs.List.{list_any, slice_get}
use Rattle.acc_stamp.specs.declared.actors.Actor.{Actor}
use Rattle.acc_stamp.specs.declared.stamps.TxnId.{TxnId}
use Rattle.acc_topology.specs.Sets.{is_among}
use Rattle.acc_message_index.specs.declared.posting.Posting.{Posting}
use Rattle.acc_message_index.specs.Mail.{posting_at}
use Rattle.acc_message_index.specs.Standing.{Standing, is_down_at}
use Rattle.acc_message.specs.declared.entry.Event.{Event}
use Rattle.acc_message.specs.declared.entry.Event.TheVariants.{Message as TakesMessage}
use Rattle.acc_message.specs.declared.item.Item.{Item}
use Rattle.acc_message.specs.declared.item.Item.TheVariants.{Step, Skipped, Down}
use Rattle.acc_message.specs.Growing.{message_in}
use Rattle.acc_message.specs.Items.{sent_in, sent_of, message_at, is_begun, id_of_txn}
use Rattle.acc_message.specs.Run.{is_down}
use Rattle.acc_message_code.specs.Short.{IsShortMessage}
use Rattle.acc_message_code.specs.Weight.{weight_of, weight_of_items}
use Rattle.acc_safety.specs.Calm.{item_takes}
use Rattle.acc_schedule_runs.specs.Situations.{Situation, whole, receiver_in, is_through}
use Rattle.acc_history.specs.Begun.{begun_in, begun_as}
use Rattle.acc_history.specs.declared.history.History.{History}

-- ---- what changes a situation

-- one more message is dropped
abbrev pub with_dropped : ℕ → Situation → Situation
with_dropped number s = record { earlier = s.earlier; own = s.own; dropped = number ∷ s.dropped; stopped = s.stopped }

-- a message that the item takes is among those that the cluster sent
abbrev pub EventTakesSent : Situation → Event → Type 0
EventTakesSent s (TakesMessage number) = number < length (sent_of s.own)
EventTakesSent s _ = Unit {0}

abbrev pub TakesSent : Situation → Item → Type 0
TakesSent s (Step e) = EventTakesSent s e.event
TakesSent s (Skipped step cause) = Unit {0}
TakesSent s (Down actor) = Unit {0}

-- ---- the messages

-- the message with this number stands in the items, the oldest first, at this place
pub record IsPosting (items : List Item) (s : Situation) (number : ℕ) (p : Posting) : Type 0 where
  pub message : message_in (slice_get items p.place) p.index ≡ message_at s.own number
  pub goes_to : p.to ≡ (receiver_in s number).0
  pub is_open : p.is_open ≡ not (is_through s number)

-- the items with what waits. What wasn't sent so far was neither taken nor dropped
pub record Holds (items : List Item) (w : Standing) (s : Situation) : Type 0 where
  pub items_are : items ≡ reverse s.own
  pub sent_are : length w.sent ≡ length (sent_of s.own)
  pub unsent : (number : ℕ) → length (sent_of s.own) ≤ number → (list_any (item_takes number) s.own || is_among s.dropped number) ≡ false
  pub postings : (number : ℕ) → number < length (sent_of s.own) → IsPosting items s number (posting_at w.sent number)
  pub downs : (a : Actor) → is_down_at w.downs a.0 ≡ is_down a (whole s)

-- ---- the whole

pub record StandsFor (h : History) (s : Situation) : Type 0 where
  pub holds : Holds h.items.items h.waiting s
  pub begun : (txn : ℕ) → begun_in h.begun.items txn ≡ begun_as (is_begun (whole s) txn) (id_of_txn (whole s) txn)

abbrev pub IsWeighed : History → Situation → Type 0
IsWeighed h s = h.weight ≡ weight_of_items s.own

-- ---- items that were entered elsewhere

-- these items, the oldest first, behind no earlier run; nothing was dropped
abbrev pub situation_of : List Item → Situation
situation_of items = record { earlier = []; own = reverse items; dropped = []; stopped = [] }

-- behind these items an item can stand: what it takes was sent by them, and the bytes of its messages can be counted
pub record MayFollow (before : List Item) (item : Item) : Type 0 where
  pub takes : TakesSent (situation_of before) item
  pub short : All IsShortMessage (sent_in item)
  pub fits : weight_of item < 2 ^ 64

-- each item can stand behind those before it
abbrev pub EachMayFollow : List Item → Type 0
EachMayFollow items = (before : List Item) (item : Item) (after : List Item) → items ≡ before ++ item ∷ after → MayFollow before item

-- what waits, what was begun and how many bytes there are behind these items, the oldest first
pub record IsNoted (items : List Item) (w : Standing) (ids : List (Option (Option TxnId))) (weight : ℕ) : Type 0 where
  pub holds : Holds items w (situation_of items)
  pub begun : (txn : ℕ) → begun_in ids txn ≡ begun_as (is_begun (whole (situation_of items)) txn) (id_of_txn (whole (situation_of items)) txn)
  pub weighs : weight ≡ weight_of_items (situation_of items).own
