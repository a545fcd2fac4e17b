-- The limits of a run: how many items it has, and how many bytes their messages have together.
use Rattle.std.specs.Prelude.{◌≡◌, ℕ, ◌<◌, ◌≤◌, List, ◌∷◌, length}
use Rattle.acc_message.specs.declared.error.Which.{Which}
use Rattle.acc_message.specs.declared.error.Which.TheVariants.{Document, Items, Bytes}
use Rattle.acc_message.specs.declared.item.Item.{Item}
use Rattle.acc_message_code.specs.Weight.{weight_of_items}

abbrev pub most_items : ℕ
most_items = 1000000

abbrev pub most_bytes : ℕ
most_bytes = 268435456

-- neither limit is passed
pub record IsWithin (items : List Item) : Type 0 where
  pub few : length items ≤ most_items
  pub light : weight_of_items items ≤ most_bytes

-- The item after these would pass this limit, which has this number. The limit of items comes first. A document's is none of a run.
abbrev pub WouldPass : List Item → Item → Which → ℕ → Type 0
WouldPass items item Document number = ⊥
WouldPass items item Items number = (number ≡ most_items) × (most_items < length (item ∷ items))
WouldPass items item Bytes number = (number ≡ most_bytes) × (length (item ∷ items) ≤ most_items) × (most_bytes < weight_of_items (item ∷ items))

-- The limit ends a run after these items: they are a front of it within the limits, and the next item would pass this one.
pub record EndsAt (Front : List Item → Type 0) (items : List Item) (which : Which) (number : ℕ) : Type 0 where
  pub next : Item
  pub front : Front (next ∷ items)
  pub within : IsWithin items
  pub passed : WouldPass items next which number
