-- Sets of the numbers 0 to 15, kept as the bits of one number.
use Rattle.std.specs.Prelude.{◌≡◌, ℕ, ◌==◌, Bool, List, filter}
use Rattle.std.specs.List.{list_any, range_with_len}
use Rattle.std.specs.Int.{bit_at}

-- the numbers that a set can have
unfoldable pub numbers : List ℕ
numbers = range_with_len 0 16

-- whether the set has the number
abbrev pub in_set : ℕ → ℕ → Bool
in_set set n = bit_at set n == 1

-- whether the number stands in the list
abbrev pub is_among : List ℕ → ℕ → Bool
is_among ns n = list_any (λ m. m == n) ns

-- the set has the numbers of the list and no others
abbrev pub IsSetOf : ℕ → List ℕ → Type 0
IsSetOf set ns = (n : ℕ) → in_set set n ≡ is_among ns n

-- the numbers of a set, rising
abbrev pub members : ℕ → List ℕ
members set = filter (in_set set) numbers

-- the numbers of a list that a set can have, rising and each once
abbrev pub in_order : List ℕ → List ℕ
in_order ns = filter (is_among ns) numbers

-- the first list is the second one without some of its numbers
abbrev pub IsPartOf : List ℕ → List ℕ → Type 0
IsPartOf part whole = part ≡ filter (is_among part) whole
