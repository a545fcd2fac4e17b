-- Lists of pairs of a key and a value that rise by key.
use Rattle.std.specs.Prelude.{◌≡◌, ℕ, ◌≤◌, ◌<◌, IsTrue, List, length, Option}
use Rattle.std.specs.declared.cmp.Ordering.TheVariants.{Less, Equal, Greater}
use Rattle.std.specs.List.{HoldsAt}
use Rattle.std.specs.List.Sorted.{IsPartitionPoint}
use Rattle.std.specs.FinMap as map
use Rattle.acc_value.specs.declared.key.Key.{Key}
use Rattle.acc_value.specs.Key.{key_cmp}

module _ {V : Type 0} where
  -- each key stands before all that follow it
  abbrev pub IsRising : List (Key × V) → Type 0
  IsRising pairs = IsTrue (map.is_sorted key_cmp pairs)

  -- the value of a key
  abbrev pub find : List (Key × V) → Key → Option V
  find pairs key = map.find key_cmp key pairs

  -- the pairs with one more in its place, where it takes the place of one of the same key
  abbrev pub put : List (Key × V) → Key → V → List (Key × V)
  put pairs key value = map.put key_cmp key value pairs

  -- the pair at this place has the key
  abbrev pub HasKeyAt : List (Key × V) → Key → ℕ → Type 0
  HasKeyAt pairs key place = (place < length pairs) × HoldsAt (λ p. key_cmp p.0 key ≡ Equal) pairs place

  -- the keys in front of this place are smaller, and those from there on are greater
  abbrev pub LacksKeyAt : List (Key × V) → Key → ℕ → Type 0
  LacksKeyAt pairs key place =
      (place ≤ length pairs) × IsPartitionPoint (λ p. key_cmp p.0 key ≡ Less) (λ p. key_cmp p.0 key ≡ Greater) pairs place
