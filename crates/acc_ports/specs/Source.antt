-- What reading does to the bytes that a source has left. A source that doesn't tell its bytes has `None`.
use Rattle.std.specs.Prelude.{◌≡◌, ℕ, ◌<◌, ◌≤◌, List, [], ◌∷◌, ◌++◌, length, take, drop, sum, All, Option}
use Rattle.std.specs.Option.{option_map}

-- the bytes left, without the first `count` of them
abbrev pub without_first : ℕ → Option (List ℕ) → Option (List ℕ)
without_first count left = option_map (λ bytes. drop count bytes) left

-- no bytes left
abbrev pub none_left : Option (List ℕ) → Option (List ℕ)
none_left left = option_map (λ _. []) left

-- The first `count` of `bytes` stand in the front of a buffer, which is otherwise as before.
pub record FillsFront (count : ℕ) (bytes before after : List ℕ) : Type 0 where
  pub enough : count ≤ length bytes
  pub filled : after ≡ take count bytes ++ drop count before

-- At most `most` of the bytes left were taken, from their front.
abbrev pub TakesAtMost : ℕ → Option (List ℕ) → Option (List ℕ) → Type 0
TakesAtMost most before after = (count : ℕ) × (count ≤ most) × (after ≡ without_first count before)

-- what the reads gave, with these behind
abbrev pub read_also : List ℕ → Option (List ℕ) → Option (List ℕ)
read_also counts reads = option_map (λ earlier. earlier ++ counts) reads

-- There were further reads, and each of them gave something.
abbrev pub ReadsOn : Option (List ℕ) → Option (List ℕ) → Type 0
ReadsOn before after = (counts : List ℕ) × All (λ count. 0 < count) counts × (after ≡ read_also counts before)

-- There were further reads, which gave so many bytes together. The last of them alone gave nothing.
abbrev pub ReadsToEnd : ℕ → Option (List ℕ) → Option (List ℕ) → Type 0
ReadsToEnd total before after =
    (counts : List ℕ) × All (λ count. 0 < count) counts × (sum counts ≡ total) × (after ≡ read_also (counts ++ 0 ∷ []) before)
