-- A part of rising keys rises.
use Rattle.std.proofs.Common.{ℕ, suc, zero, Bool, List, [], ◌∷◌, take, drop, refl, IsTrue}
use Rattle.std.specs.FinMap.{is_sorted}
use Rattle.std.specs.FinMap.Entries.{below_all}
use Rattle.std.proofs.lemmas.Bool.{and_parts, and_from}
use Rattle.acc_value.specs.declared.key.Key.{Key}
use Rattle.acc_value.specs.Key.{key_cmp}
use Rattle.acc_value.specs.Pairs.{IsRising}

below_front : (k : Key) (n : ℕ) (xs : List (Key × Bool)) → IsTrue (below_all key_cmp k xs) → IsTrue (below_all key_cmp k (take n xs))
below_front k zero [] h = refl
below_front k zero (x ∷ xs) h = refl
below_front k (suc n) [] h = refl
below_front k (suc n) (x ∷ xs) h =
    let both = and_parts _ (below_all key_cmp k xs) h in and_from _ _ both.0 (below_front k n xs both.1)

rises_front : (n : ℕ) (xs : List (Key × Bool)) → IsRising xs → IsRising (take n xs)
rises_front zero [] h = refl
rises_front zero (x ∷ xs) h = refl
rises_front (suc n) [] h = refl
rises_front (suc n) (x ∷ xs) h =
    let both = and_parts _ (is_sorted key_cmp xs) h in and_from _ _ (below_front x.0 n xs both.0) (rises_front n xs both.1)

rises_back : (n : ℕ) (xs : List (Key × Bool)) → IsRising xs → IsRising (drop n xs)
rises_back zero [] h = h
rises_back zero (x ∷ xs) h = h
rises_back (suc n) [] h = refl
rises_back (suc n) (x ∷ xs) h =
    let both = and_parts _ (is_sorted key_cmp xs) h in rises_back n xs both.1

pub part_rises : (from width : ℕ) (xs : List (Key × Bool)) → IsRising xs → IsRising (take width (drop from xs))
part_rises from width xs h = rises_front width (drop from xs) (rises_back from xs h)
