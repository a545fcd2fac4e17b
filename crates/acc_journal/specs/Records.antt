-- Records that wait to be appended.
use Rattle.std.specs.Prelude.{◌≡◌, ℕ, ◌<◌, List, [], ◌∷◌, ◌++◌, length, take}
use Rattle.acc_journal.specs.Layout.{records, AreShort, payloads_of}

-- these bytes stand first
abbrev pub StartsWith : List ℕ → List ℕ → Type 0
StartsWith front bytes = take (length front) bytes ≡ front

-- the payloads of records, as a closed gate after them would tell them
abbrev pub payloads_in : List ℕ → List (List ℕ)
payloads_in bytes = payloads_of (1 ∷ bytes ++ 0 ∷ [])

-- The bytes are the records of these payloads.
pub record AreRecords (bytes : List ℕ) (payloads : List (List ℕ)) : Type 0 where
  pub short : AreShort payloads
  pub spelled : bytes ≡ records payloads

-- The bytes are records, so many, and after them is room for a gate.
pub record AreWaiting (bytes : List ℕ) (many len capacity : ℕ) : Type 0 where
  pub records : AreRecords bytes (payloads_in bytes)
  pub count : many ≡ length (payloads_in bytes)
  pub room : 0 < many → len < capacity
