-- The cells that the first outcomes of a run leave in turn.
use Rattle.std.specs.Prelude.{ℕ, ◌-◌, List, length, drop, Option, None, Some}
use Rattle.std.specs.List.{fold}
use Rattle.acc_value.specs.declared.key.Key.{Key}
use Rattle.acc_value.specs.declared.value.Value.{Value}
use Rattle.acc_txn.specs.declared.parts.BodyParts.{BodyParts}
use Rattle.acc_txn.specs.Serial.{map_after}
use Rattle.acc_message.specs.declared.item.Item.{Item}
use Rattle.acc_message.specs.Items.{notes_of}
use Rattle.acc_message.specs.Run.{Cluster}
use Rattle.acc_safety.specs.Decisions.{Answered, first_outcomes, body_of}

-- so many of the oldest items
abbrev pub oldest : ℕ → List Item → List Item
oldest n items = drop (length items - n) items

-- the cells after a body, where there is one
abbrev pub cells_then : (Key → Option Value) → Option BodyParts → Key → Option Value
cells_then cells None = cells
cells_then cells (Some body) = map_after cells body

-- the cells that the bodies of these transactions leave in turn
abbrev pub cells_after : Cluster → List Item → (Key → Option Value) → List Answered → Key → Option Value
cells_after cluster items cells answers =
    fold (λ so_far (a : Answered). cells_then so_far (body_of cluster items a.id)) cells answers

-- a cell of the serial order: what the bodies of the first outcomes leave in turn, from the map on which every cell is null
abbrev pub serial_cell : Cluster → List Item → Key → Option Value
serial_cell cluster items key = cells_after cluster items (λ _. None) (first_outcomes (notes_of items)) key

-- the same when there were so many items
abbrev pub cell_after : Cluster → List Item → ℕ → Key → Option Value
cell_after cluster items n key = serial_cell cluster (oldest n items) key
