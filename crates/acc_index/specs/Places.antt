-- Some places of the columns: what stands there, and which of them a question asks for.
use Rattle.std.specs.Prelude.{◌≡◌, ℕ, ◌+◌, ◌<◌, ◌≤◌, ◌==◌, Bool, true, false, not, ◌&&◌, cond, if◌then◌else◌, Option, None, Some, List, [], ◌∷◌, ◌++◌, length, map, filter, take, All, slice_index, slice_index_or}
use Rattle.std.specs.List.{list_any}
use Rattle.acc_stamp.specs.declared.stamps.Stamp.{Stamp}
use Rattle.acc_stamp.specs.declared.stamps.TxnId.{TxnId}
use Rattle.acc_stamp.specs.Stamp.{id_eq, stamp_lt}
use Rattle.acc_value.specs.declared.key.Key.{Key}
use Rattle.acc_index.specs.declared.blocks.Block.{Block}
use Rattle.acc_index.specs.declared.columns.Columns.{Columns}
use Rattle.acc_index.specs.Columns.{stamp_at, id_at}

abbrev pub InRange : Columns → List ℕ → Type 0
InRange c places = All (λ p. p < length c.heights.items) places

-- another transaction stands at this place
abbrev pub is_other : Columns → TxnId → ℕ → Bool
is_other c id place = not (id_eq (id_at c place) id)

abbrev pub others : Columns → TxnId → List ℕ → List ℕ
others c id places = filter (is_other c id) places

abbrev pub those_below : Columns → Stamp → List ℕ → List ℕ
those_below c bound places = filter (λ p. stamp_lt (id_at c p).0 bound) places

abbrev pub stamps_of : Columns → List ℕ → List Stamp
stamps_of c places = map (stamp_at c) places

abbrev pub ids_of : Columns → List ℕ → List TxnId
ids_of c places = map (id_at c) places

-- the places of all uses that conflict with these
abbrev pub asked : (Key → Bool → List ℕ) → List (Key × Bool) → List ℕ
asked places [] = []
asked places (u ∷ uses) = (places u.0 true ++ cond u.1 (places u.0 false) []) ++ asked places uses

-- The block has the first places, and its mask tells at which of them another transaction stands.
pub record IsBlock (c : Columns) (places : List ℕ) (id : TxnId) (b : Block) : Type 0 where
  pub some : 0 < b.taken
  pub taken : b.taken ≤ length places
  pub narrow : b.width ≤ 64
  pub in_range : b.start + b.width ≤ length c.heights.items
  pub low : (j : ℕ) → j < b.taken → b.start ≤ slice_index places j
  pub high : (j : ℕ) → j < b.taken → slice_index places j < b.start + b.width
  pub marks : (i : ℕ) → i < 64 → slice_index_or b.mask i false ≡ list_any (λ p. (p == b.start + i) && is_other c id p) (take b.taken places)

-- the greater of two stamps that may be missing
abbrev pub later_of : Option Stamp → Option Stamp → Option Stamp
later_of None b = b
later_of (Some x) None = Some x
later_of (Some x) (Some y) = Some (if stamp_lt x y then y else x)
