-- The bytes of a journal: a version, and then records, each after an open gate, up to a closed one.
use Rattle.std.specs.Prelude.{◌≡◌, ◌≢◌, ◌⊎◌, ℕ, zero, suc, ◌+◌, ◌^◌, ◌<◌, ◌==◌, ◌&&◌, nat_lt, if◌then◌else◌, List, [], ◌∷◌, ◌++◌, length, take, drop}
use Rattle.std.specs.List.{AllByRecursion}
use Rattle.std.specs.Int.{w32, from_be_bytes}
use Rattle.acc_wire.specs.Spelling.{u32_bytes}

-- a payload with its length in front
abbrev pub sized : List ℕ → List ℕ
sized payload = u32_bytes (length payload) ++ payload

-- the records of these payloads, an open gate in front of each
abbrev pub records : List (List ℕ) → List ℕ
records [] = []
records (payload ∷ payloads) = 1 ∷ sized payload ++ records payloads

-- Their lengths fit four bytes.
abbrev pub AreShort : List (List ℕ) → Type 0
AreShort payloads = AllByRecursion (λ (payload : List ℕ). length payload < 2 ^ 32) payloads

-- The bytes are the version, the records of these payloads, and a closed gate. What follows it counts for nothing.
pub record Reads (bytes : List ℕ) (payloads : List (List ℕ)) : Type 0 where
  pub gate : ℕ
  pub behind : List ℕ
  pub closed : gate ≢ 1
  pub short : AreShort payloads
  pub spelled : bytes ≡ 1 ∷ (records payloads ++ gate ∷ behind)

-- They are of another version.
pub record IsForeign (bytes : List ℕ) (version : ℕ) : Type 0 where
  pub behind : List ℕ
  pub other : version ≢ 1
  pub spelled : bytes ≡ version ∷ behind

-- They begin with no record that a gate follows.
abbrev pub NoRecord : List ℕ → Type 0
NoRecord bytes = (payload : List ℕ) (gate : ℕ) (behind : List ℕ) → length payload < 2 ^ 32 → bytes ≡ sized payload ++ gate ∷ behind → ⊥

-- At this place stands an open gate after which the length, the payload or the next gate is cut.
pub record IsCutBehind (bytes : List ℕ) (place : ℕ) : Type 0 where
  pub payloads : List (List ℕ)
  pub rest : List ℕ
  pub short : AreShort payloads
  pub spelled : bytes ≡ 1 ∷ (records payloads ++ 1 ∷ rest)
  pub at : place ≡ 1 + length (records payloads)
  pub cut : NoRecord rest

-- The version is missing, or the first gate, or a part of a record or the gate after it.
abbrev pub IsCut : List ℕ → ℕ → Type 0
IsCut bytes place = ((bytes ≡ []) × (place ≡ 0)) ⊎ ((bytes ≡ 1 ∷ []) × (place ≡ 1)) ⊎ IsCutBehind bytes place

-- the payloads after a gate, up to the first gate that is closed or whose record is cut; there are at most so many
abbrev pub records_behind : ℕ → List ℕ → List (List ℕ)
records_behind zero bytes = []
records_behind (suc most) [] = []
records_behind (suc most) (gate ∷ rest) =
    let count = from_be_bytes w32 (take 4 rest) in
    if (gate == 1) && nat_lt (4 + count) (length rest) then take count (drop 4 rest) ∷ records_behind most (drop (4 + count) rest) else []

-- the payloads of a journal
abbrev pub payloads_of : List ℕ → List (List ℕ)
payloads_of bytes = records_behind (length bytes) (drop 1 bytes)
