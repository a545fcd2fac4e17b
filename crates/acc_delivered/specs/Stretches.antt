-- Items that stand after others, and which messages they take. All lists have the newest item first.
--     TakesOwn      of all messages they take only those that they sent themselves
--     TakesAll      they take each message that they sent
use Rattle.std.specs.Prelude.{ℕ, ◌<◌, ◌≤◌, Bool, true, not, nat_lt, List, ◌++◌, length, IsTrue}
use Rattle.std.specs.List.{list_any, list_all}
use Rattle.acc_message.specs.declared.entry.Event.{Event}
use Rattle.acc_message.specs.declared.entry.Event.TheVariants.{Begin, Recover, Slow, Message as TakesMessage, Restart}
use Rattle.acc_message.specs.declared.item.Item.{Item}
use Rattle.acc_message.specs.declared.item.Item.TheVariants.{Step, Skipped, Down}
use Rattle.acc_message.specs.Items.{sent_of}
use Rattle.acc_safety.specs.Calm.{item_takes}

-- a message that the event takes has this number or a greater one
abbrev pub event_takes_from : ℕ → Event → Bool
event_takes_from least (Begin txn) = true
event_takes_from least (Recover txn) = true
event_takes_from least (Slow txn) = true
event_takes_from least (TakesMessage number) = not (nat_lt number least)
event_takes_from least (Restart kept) = true

abbrev pub item_takes_from : ℕ → Item → Bool
item_takes_from least (Step e) = event_takes_from least e.event
item_takes_from least (Skipped step cause) = true
item_takes_from least (Down actor) = true

-- the later items take no message that the base sent
abbrev pub TakesOwn : List Item → List Item → Type 0
TakesOwn base later = IsTrue (list_all (item_takes_from (length (sent_of base))) later)

-- each message that the later items sent is taken by one of them
abbrev pub TakesAll : List Item → List Item → Type 0
TakesAll base later =
    (number : ℕ) → length (sent_of base) ≤ number → number < length (sent_of (later ++ base))
    → IsTrue (list_any (item_takes number) later)
