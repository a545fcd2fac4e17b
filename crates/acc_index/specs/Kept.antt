-- What the parts of an index have to do with one another.
use Rattle.std.specs.Prelude.{◌≡◌, ℕ, ◌+◌, Bool, List, [], ◌∷◌, length}
use Rattle.std.specs.List.{AllByRecursion}
use Rattle.acc_value.specs.declared.key.Key.{Key}
use Rattle.acc_value.specs.Pairs.{IsRising}
use Rattle.acc_index.specs.declared.columns.Columns.{Columns}
use Rattle.acc_index.specs.Columns.{IsEven, stamp_at, id_at}
use Rattle.acc_index.specs.Users.{Map, places_at, places_from}
use Rattle.acc_index.specs.Noted.{Noted}

-- what was noted at a place, by its share
abbrev pub noted_with : Columns → List (Key × Bool) → ℕ → Noted
noted_with c share place = record { id = id_at c place; share = share; stamp = stamp_at c place }

-- what was noted from a place on
abbrev pub noted_from : Columns → ℕ → List (List (Key × Bool)) → List Noted
noted_from c place [] = []
noted_from c place (share ∷ shares) = noted_with c share place ∷ noted_from c (place + 1) shares

abbrev pub noted_of : Columns → List (List (Key × Bool)) → List Noted
noted_of c shares = noted_from c 0 shares

-- Each place has a share, and for each key the map has the places whose shares use it.
pub record IsKept (c : Columns) (all : List (List (Key × Bool))) (m : Map) : Type 0 where
  pub even : IsEven c
  pub shares : length all ≡ length c.heights.items
  pub rising : AllByRecursion IsRising all
  pub users : (key : Key) (w : Bool) → places_at m key w ≡ places_from 0 all key w
