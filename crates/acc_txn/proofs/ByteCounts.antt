-- Lengths of lists of fields.
use Rattle.std.proofs.Common.{◌≡◌, ℕ, suc, List, [], ◌∷◌, length, refl, ap}
use Rattle.std.specs.List.{flat_map}
use Rattle.acc_wire.specs.Spelling.{u8_bytes}

-- as many bytes as numbers
pub length-bytes : (xs : List ℕ) → length (flat_map u8_bytes xs) ≡ length xs
length-bytes [] = refl
length-bytes (x ∷ xs) = ap suc (length-bytes xs)
