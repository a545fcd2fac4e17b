-- Calm: a run without restarts, recovers and slows that leaves no message untaken. Whatever it begins has its reply.
use Rattle.std.specs.Prelude.{ℕ, ◌<◌, ◌==◌, Bool, true, false, IsTrue, List, length}
use Rattle.std.specs.List.{list_any, list_all}
use Rattle.acc_stamp.specs.declared.stamps.TxnId.{TxnId}
use Rattle.acc_message.specs.declared.entry.Event.{Event}
use Rattle.acc_message.specs.declared.entry.Event.TheVariants.{Begin as BeginEvent, Recover as RecoverEvent, Slow as SlowEvent, Message as MessageEvent, Restart as RestartEvent}
use Rattle.acc_message.specs.declared.item.Item.{Item}
use Rattle.acc_message.specs.declared.item.Item.TheVariants.{Step, Skipped, Down}
use Rattle.acc_message.specs.Items.{sent_of, notes_of, begins, replies}

abbrev pub is_calm_event : Event → Bool
is_calm_event (BeginEvent txn) = true
is_calm_event (RecoverEvent txn) = false
is_calm_event (SlowEvent txn) = false
is_calm_event (MessageEvent number) = true
is_calm_event (RestartEvent kept) = false

abbrev pub is_calm_item : Item → Bool
is_calm_item (Step e) = is_calm_event e.event
is_calm_item (Skipped step cause) = true
is_calm_item (Down actor) = true

-- the item takes the message with this number
abbrev pub event_takes : ℕ → Event → Bool
event_takes number (MessageEvent n) = n == number
event_takes number _ = false

abbrev pub item_takes : ℕ → Item → Bool
item_takes number (Step e) = event_takes number e.event
item_takes number _ = false

pub record IsCalm (items : List Item) : Type 0 where
  pub events : IsTrue (list_all is_calm_item items)
  pub taken : (number : ℕ) → number < length (sent_of items) → IsTrue (list_any (item_takes number) items)

abbrev pub EachBegunIsAnswered : List Item → Type 0
EachBegunIsAnswered items =
    (x : TxnId) → IsTrue (list_any (begins x) (notes_of items)) → IsTrue (list_any (replies x) (notes_of items))
