-- What a hash takes of a key.
use Rattle.std.specs.Prelude.{◌≡◌, ℕ, true, List, [], ◌∷◌}
use mathlib.Core.Path.{refl, sym, ap}
use mathlib.Core.Bool.{true≢false}
use Rattle.std.specs.declared.cmp.Ordering.TheVariants.{Less, Equal, Greater}
use Rattle.std.specs.Ordering.{nat_cmp, ordering_then, is_eq}
use Rattle.std.specs.Cmp.{Equal-is}
use Rattle.std.specs.Cmp.Lexicographic.{slice_cmp}
use Rattle.std.specs.FinMap.{slice_cmp-IsAntisymmetric, nat_cmp-IsAntisymmetric}
use Rattle.acc_value.specs.declared.key.Key.{Key}
use Rattle.acc_value.specs.Key.{key_cmp, key_eq}

-- the text and then the table
abbrev pub hashed : Key → List (List ℕ)
hashed k = k.key ∷ k.table ∷ []

same_key : (a b : Key) → key_eq a b ≡ true → a ≡ b
same_key a b same =
    elim (slice_cmp nat_cmp a.key b.key) as (λ r. slice_cmp nat_cmp a.key b.key ≡ r → ordering_then r (slice_cmp nat_cmp a.table b.table) ≡ Equal → a ≡ b) [
      | Less ↦ λ _ e. absurd (true≢false (sym (ap is_eq e)))
      | Greater ↦ λ _ e. absurd (true≢false (sym (ap is_eq e)))
      | Equal ↦ λ texts tables.
          let text : a.key ≡ b.key = slice_cmp-IsAntisymmetric nat_cmp-IsAntisymmetric a.key b.key texts in
          let table : a.table ≡ b.table = slice_cmp-IsAntisymmetric nat_cmp-IsAntisymmetric a.table b.table tables in
          λ i. record { table = table i; key = text i }
    ] refl ((Equal-is (key_cmp a b)).0 same)

-- equal keys are hashed alike
pub hashed_alike : (a b : Key) → key_eq a b ≡ true → hashed a ≡ hashed b
hashed_alike a b same = ap hashed (same_key a b same)
