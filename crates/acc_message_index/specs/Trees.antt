-- Numbers in a row, over which a tree knows the least.
use Rattle.std.specs.Prelude.{◌≡◌, ℕ, ◌+◌, ◌*◌, ◌<◌, ◌≤◌, List, length, cond, min, nat_lt, slice_index}

-- stands where there is no number
abbrev pub none : ℕ
none = 18446744073709551615

-- the leaf with this number: so many leaves stand behind as many nodes
abbrev pub leaf : ℕ → List ℕ → ℕ → ℕ
leaf count places number = cond (nat_lt number count) (slice_index places (count + number)) none

-- the lesser number of the two places below a node
abbrev pub lesser : List ℕ → ℕ → ℕ
lesser places node = min (slice_index places (2 * node)) (slice_index places (2 * node + 1))

-- place 0 stands empty, and each node has the lesser number below it
pub record IsTree (count : ℕ) (places : List ℕ) : Type 0 where
  pub size : length places ≡ 2 * count
  pub nodes : (node : ℕ) → 1 ≤ node → node < count → slice_index places node ≡ lesser places node
