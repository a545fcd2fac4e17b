-- Letters of either case against a word in small letters.
use Rattle.std.proofs.Common.{◌≡◌, ℕ, ◌==◌, Bool, true, false, not, cond, ◌&&◌, List, [], ◌∷◌, length, map, refl, ap, arith}
use Rattle.std.specs.Prelude.{zip}
use Rattle.std.proofs.lemmas.Bool.Decides.{nat_tests}
use Rattle.std.specs.List.{list_all}
use Rattle.std.specs.Char.{is_ascii_uppercase, to_ascii_lowercase}
use Rattle.std.specs.Str.{bytes_eq}

pub spelled : (letters word : List ℕ) → length letters ≡ length word
    → list_all (λ pair. to_ascii_lowercase pair.0 == pair.1) (zip letters word) ≡ bytes_eq (map to_ascii_lowercase letters) word
spelled [] [] same = refl
spelled [] (w ∷ word) same = absurd (omega arith)
spelled (l ∷ letters) [] same = absurd (omega arith)
spelled (l ∷ letters) (w ∷ word) same =
    ap (λ b. (to_ascii_lowercase l == w) && b) (spelled letters word (omega arith))

both : (a b : Bool) → (a && b) ≡ true → (a ≡ true) × (b ≡ true)
both true b is = (refl, is)
both false b is = cc

stays : (c : ℕ) → not (is_ascii_uppercase c) ≡ true → to_ascii_lowercase c ≡ c
stays c small = grind (arith, nat_tests, small)

-- without a capital letter a word is in small letters
pub small_stay : (letters : List ℕ) → list_all (λ letter. not (is_ascii_uppercase letter)) letters ≡ true → map to_ascii_lowercase letters ≡ letters
small_stay [] small = refl
small_stay (l ∷ letters) small =
    let h = both (not (is_ascii_uppercase l)) (list_all (λ letter. not (is_ascii_uppercase letter)) letters) small in
    rw (stays l h.0, small_stay letters h.1) refl
