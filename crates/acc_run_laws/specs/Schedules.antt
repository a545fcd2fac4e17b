-- Schedules of asks and drains.
use Rattle.std.specs.Prelude.{ℕ, zero, suc, Bool, true, false, not, ◌||◌, List, [], ◌∷◌, ◌++◌, length, filter}
use Rattle.std.specs.List.{list_any, range_with_len}
use Rattle.acc_topology.specs.Sets.{is_among}
use Rattle.acc_message.specs.declared.item.Item.{Item}
use Rattle.acc_message.specs.declared.item.Item.TheVariants.{Step, Skipped}
use Rattle.acc_message.specs.Items.{sent_of, sent_in}
use Rattle.acc_message.specs.Run.{Cluster}
use Rattle.acc_safety.specs.Calm.{item_takes}
use Rattle.acc_run_laws.specs.declared.ask.Ask.TheVariants.{Deliver}
use Rattle.acc_run_laws.specs.Asks.{item_for}

-- the message waits: it was neither taken nor dropped
abbrev pub waits : List Item → List ℕ → ℕ → Bool
waits items dropped number = not (list_any (item_takes number) items || is_among dropped number)

-- the messages that wait, the oldest first
abbrev pub waiting : List Item → List ℕ → List ℕ
waiting items dropped = filter (waits items dropped) (range_with_len 0 (length (sent_of items)))

-- the messages that an item sends after others, by their numbers
abbrev pub new_messages : List Item → Item → List ℕ
new_messages earlier item = range_with_len (length (sent_of earlier)) (length (sent_in item))

-- a drain delivers the oldest of these; what is sent then waits after them. It does so at most so many times
abbrev pub drained_with : ℕ → Cluster → List ℕ → List Item → List Item
drained_with zero cluster numbers items = items
drained_with (suc times) cluster [] items = items
drained_with (suc times) cluster (number ∷ numbers) items =
    let next : Item = item_for cluster items 0 (Deliver number) in
    drained_with times cluster (numbers ++ new_messages items next) (next ∷ items)

-- as long as there is one it delivers the oldest message that was neither taken nor dropped
abbrev pub drained : Cluster → List ℕ → List Item → List Item
drained cluster dropped items = drained_with 200 cluster (waiting items dropped) items

abbrev pub is_skipped : Item → Bool
is_skipped (Skipped step cause) = true
is_skipped _ = false

-- the steps that were passed over, the newest first
abbrev pub skipped_of : List Item → List Item
skipped_of items = filter is_skipped items
