-- What the lanes of a vector hold, and the greatest number of a list.
use Rattle.std.specs.Prelude.{◌≡◌, ◌==◌, ℕ, ◌<◌, max, Bool, ◌&&◌, if◌then◌else◌, List, [], ◌∷◌, length, slice_index}

-- v has eight lanes, and lane k holds f k
pub record HasLanes (v : List ℕ) (f : ℕ → ℕ) : Type 0 where
  pub long : length v ≡ 8
  pub each : (k : ℕ) → k < 8 → slice_index v k ≡ f k

-- the greatest of these numbers, or 0
abbrev pub greatest_number : List ℕ → ℕ
greatest_number [] = 0
greatest_number (x ∷ xs) = max x (greatest_number xs)

-- the h of the chosen stamps, and 0 at the places of the others
abbrev pub heights_chosen : List Bool → List ℕ → List ℕ
heights_chosen [] hs = []
heights_chosen (m ∷ ms) [] = []
heights_chosen (m ∷ ms) (h ∷ hs) = (if m then h else 0) ∷ heights_chosen ms hs

-- the origins of the chosen stamps with this h, and 0 at the places of the others
abbrev pub origins_chosen : ℕ → List Bool → List ℕ → List ℕ → List ℕ
origins_chosen height [] hs os = []
origins_chosen height (m ∷ ms) [] os = []
origins_chosen height (m ∷ ms) (h ∷ hs) [] = []
origins_chosen height (m ∷ ms) (h ∷ hs) (o ∷ os) =
    (if m && (h == height) then o else 0) ∷ origins_chosen height ms hs os
