-- Bytes that stand in place, with zeros behind them.
use Rattle.std.specs.Prelude.{◌≡◌, ℕ, ◌+◌, ◌*◌, ◌<◌, ◌≤◌, List, [], ◌∷◌, slice_index}

-- each is a number of eight bits
abbrev pub AreBytes : List ℕ → Type 0
AreBytes bytes = (i : ℕ) → slice_index bytes i < 256

-- there are zeros from this place on
abbrev pub AreZerosFrom : ℕ → List ℕ → Type 0
AreZerosFrom place bytes = (i : ℕ) → place ≤ i → slice_index bytes i ≡ 0

-- the number that bytes spell, the first of which weighs most, behind those that spell another number
abbrev pub number_behind : ℕ → List ℕ → ℕ
number_behind n [] = n
number_behind n (b ∷ bs) = number_behind (n * 256 + b) bs
