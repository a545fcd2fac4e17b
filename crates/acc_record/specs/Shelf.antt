-- What a shelf holds, entry by entry.
use Rattle.std.specs.Prelude.{◌≡◌, List, [], Option, None, Some, Vec}
use Rattle.std.specs.BTreeMap as tree
use Rattle.std.specs.HashMap as table
use Rattle.std.specs.declared.alloc.Global.{Global}
use Rattle.std.specs.declared.hash.BuildHasherDefault.{BuildHasherDefault}
use Rattle.std.specs.declared.hash.FoldHasher.{FoldHasher}
use Rattle.acc_stamp.specs.declared.stamps.TxnId.{TxnId}
use Rattle.acc_stamp.specs.Stamp.{id_cmp, id_eq}
use Rattle.acc_value.specs.declared.key.Key.{Key}
use Rattle.acc_value.specs.declared.value.Value.{Value}
use Rattle.acc_value.specs.Cells.{cells_of, applied}
use Rattle.acc_record.specs.declared.cells.Cells.{Cells}
use Rattle.acc_record.specs.declared.record.Record.{Record}
use Rattle.acc_record.specs.declared.shelf.Shelf.{Shelf}
use Rattle.acc_record.specs.declared.shelf.Watch.{Watch}

abbrev pub Records : Type 0
Records = table.HashMap TxnId Record (BuildHasherDefault FoldHasher)

abbrev pub Waits : Type 0
Waits = tree.BTreeMap TxnId (Vec Watch Global)

-- the record of a transaction
abbrev pub record_at : Records → TxnId → Option Record
record_at records x = table.get id_eq records x

-- the cell of a key: what the last step wrote, or else what the map has
abbrev pub cell_at : Cells → Key → Option Value
cell_at cells key = applied (cells_of cells.map) cells.pending key

abbrev pub watches_in : {A : Type 0} → Option (Vec Watch A) → List Watch
watches_in None = []
watches_in (Some there) = there.items

-- what waits for a transaction
abbrev pub watchers : Waits → TxnId → List Watch
watchers waits y = watches_in (tree.get id_cmp waits y)

-- the second shelf has what the first has
pub record IsSame (a b : Shelf) : Type 0 where
  pub actor : b.actor ≡ a.actor
  pub records : (x : TxnId) → record_at b.records x ≡ record_at a.records x
  pub index : b.index ≡ a.index
  pub cells : (key : Key) → cell_at b.cells key ≡ cell_at a.cells key
  pub waits : (y : TxnId) → watchers b.waits y ≡ watchers a.waits y
  pub greatest : b.greatest ≡ a.greatest
