-- The columns of an index, place by place.
use Rattle.std.specs.Prelude.{◌≡◌, ℕ, ◌++◌, [], ◌∷◌, length, slice_index}
use Rattle.acc_stamp.specs.declared.stamps.Stamp.{Stamp}
use Rattle.acc_stamp.specs.declared.stamps.TxnId.{TxnId}
use Rattle.acc_index.specs.declared.columns.Columns.{Columns}

-- the columns have one length
pub record IsEven (c : Columns) : Type 0 where
  pub origins : length c.origins.items ≡ length c.heights.items
  pub id_heights : length c.id_heights.items ≡ length c.heights.items
  pub id_origins : length c.id_origins.items ≡ length c.heights.items

-- the stamp and the transaction at a place
abbrev pub stamp_at : Columns → ℕ → Stamp
stamp_at c place = record { h = slice_index c.heights.items place; origin = slice_index c.origins.items place }

abbrev pub id_at : Columns → ℕ → TxnId
id_at c place = record { 0 = record { h = slice_index c.id_heights.items place; origin = slice_index c.id_origins.items place } }

-- the second columns have one place more
pub record HasMore (old new : Columns) (id : TxnId) (stamp : Stamp) : Type 0 where
  pub heights : new.heights.items ≡ old.heights.items ++ stamp.h ∷ []
  pub origins : new.origins.items ≡ old.origins.items ++ stamp.origin ∷ []
  pub id_heights : new.id_heights.items ≡ old.id_heights.items ++ id.0.h ∷ []
  pub id_origins : new.id_origins.items ≡ old.id_origins.items ++ id.0.origin ∷ []
