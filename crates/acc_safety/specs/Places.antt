-- Places in a list whose newest element stands first: an entry of a run, a deed of a node, a step of a store.
--     IsIn x xs      x is an element
--     StandsAt x past xs      x is an element, and these stand after it
--     IsPast past xs      the list without some of its newest elements
use Rattle.std.specs.Prelude.{◌≡◌, List, ◌∷◌}

pub data IsIn {T : Type 0} : T → List T → Type 0 where
  First : (x : T) (xs : List T) → IsIn x (x ∷ xs)
  Later : (x y : T) (xs : List T) → IsIn x xs → IsIn x (y ∷ xs)

pub data StandsAt {T : Type 0} : T → List T → List T → Type 0 where
  Here : (x : T) (past : List T) → StandsAt x past (x ∷ past)
  Back : (x y : T) (past xs : List T) → StandsAt x past xs → StandsAt x past (y ∷ xs)

pub data IsPast {T : Type 0} : List T → List T → Type 0 where
  Whole : (xs : List T) → IsPast xs xs
  Behind : (y : T) (past xs : List T) → IsPast past xs → IsPast past (y ∷ xs)

-- of two places in one list the first is the older one, or they are one place, or it is the newer one
pub data InOrder {T : Type 0} (x y : T) (past before : List T) : Type 0 where
  IsOlder : StandsAt x past before → InOrder x y past before
  IsSame : x ≡ y → past ≡ before → InOrder x y past before
  IsNewer : StandsAt y before past → InOrder x y past before
