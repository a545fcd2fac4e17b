-- What a store tells without a message.
use Rattle.std.specs.Prelude.{ℕ, Bool, false, not, cond, List, [], Option, None, Some, map, filter}
use Rattle.std.specs.List.{list_all}
use Rattle.acc_stamp.specs.declared.stamps.TxnId.{TxnId}
use Rattle.acc_stamp.specs.Rising.{ids_union}
use Rattle.acc_topology.specs.Layout.{Layout}
use Rattle.acc_topology.specs.Keys.{share_of}
use Rattle.acc_value.specs.declared.key.Key.{Key}
use Rattle.acc_value.specs.declared.value.Value.{Value}
use Rattle.acc_value.specs.Footprint.{is_written}
use Rattle.acc_deps.specs.declared.records.Settled.{Settled}
use Rattle.acc_txn.specs.declared.parts.BodyParts.{BodyParts}
use Rattle.acc_txn.specs.Uses.{footprint_of}
use Rattle.acc_message.specs.Taken.{Taken, Heard, known}
use Rattle.acc_message.specs.Opening.{is_applied, cells_at}
use Rattle.acc_record.specs.declared.record.Record.{Record}
use Rattle.acc_record.specs.declared.shelf.Shelf.{Shelf}
use Rattle.acc_record.specs.Shelf.{record_at}

-- whether a known transaction writes a key of the shard
abbrev pub writes_here : Layout → ℕ → Key → Heard → Bool
writes_here layout shard key k = is_written (share_of layout (footprint_of k.body) shard) key

-- the known transactions that write a key of the shard, rising
abbrev pub known_writers : Layout → ℕ → List Taken → Key → List TxnId
known_writers layout shard history key = ids_union [] (map (λ (k : Heard). k.id) (filter (writes_here layout shard key) (known history)))

-- the cell of a key, where each of these transactions is applied
abbrev pub cell_if_applied : Layout → ℕ → List Taken → List TxnId → Key → Option (Option Value)
cell_if_applied layout shard history ids key = cond (list_all (is_applied shard history) ids) (Some (cells_at layout shard history key)) None

-- the known transactions that aren't applied, rising
abbrev pub unapplied : ℕ → List Taken → List TxnId
unapplied shard history = ids_union [] (map (λ (k : Heard). k.id) (filter (λ (k : Heard). not (is_applied shard history k.id)) (known history)))

-- ---- the same by the records

abbrev pub body_in : Option Record → Option BodyParts
body_in None = None
body_in (Some r) = Some r.body

abbrev pub stable_in : Option Record → Option Settled
stable_in None = None
stable_in (Some r) = r.stable

abbrev pub applied_in : Option Record → Bool
applied_in None = false
applied_in (Some r) = r.applied

abbrev pub is_unapplied_in : Option Record → Bool
is_unapplied_in None = false
is_unapplied_in (Some r) = not r.applied

-- of these transactions and their records those that aren't applied
abbrev pub unapplied_among : List (TxnId × Record) → List TxnId
unapplied_among entries = map (λ (e : TxnId × Record). e.0) (filter (λ (e : TxnId × Record). not e.1.applied) entries)

abbrev pub all_applied_at : Shelf → List TxnId → Bool
all_applied_at shelf ids = list_all (λ y. applied_in (record_at shelf.records y)) ids
