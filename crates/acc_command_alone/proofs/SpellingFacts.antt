-- A word that spells a number is UTF-8.
use Rattle.std.proofs.Common.{◌≡◌, ℕ, zero, suc, ◌==◌, Bool, true, false, cond, List, [], ◌∷◌, drop, IsUtf8, refl, sym, subst, arith}
use Rattle.std.specs.Str.{IsAscii}
use Rattle.std.specs.Str.Parse.{AllDigits, without_leading_plus}
use Rattle.std.proofs.lemmas.Bool.{eqb-true}
use Rattle.std.proofs.lemmas.Fmt.{IsAscii-from_digits}
use Rattle.std.proofs.lemmas.Str.{IsUtf8-from_ascii, IsUtf8-nil}
use Rattle.acc_command_alone.specs.Number.{SpellsIn}

plus_then : (digits : List ℕ) → IsAscii digits → IsAscii (43 ∷ digits)
plus_then digits h zero = omega arith
plus_then digits h (suc i) = h i

behind_plus : (first : ℕ) (others : List ℕ) (b : Bool) → (first == 43) ≡ b → AllDigits 10 (drop (cond b 1 0) (first ∷ others)) → IsUtf8 (first ∷ others)
behind_plus first others true plus h = subst (λ (n : ℕ). IsUtf8 (n ∷ others)) (sym (eqb-true first 43 plus)) (IsUtf8-from_ascii (43 ∷ others) (plus_then others (IsAscii-from_digits others h)))
behind_plus first others false other h = IsUtf8-from_ascii (first ∷ others) (IsAscii-from_digits (first ∷ others) h)

digits_utf8 : (word : List ℕ) → AllDigits 10 (without_leading_plus word) → IsUtf8 word
digits_utf8 [] h = IsUtf8-nil
digits_utf8 (first ∷ others) h = behind_plus first others (first == 43) refl h

pub spelled_utf8 : (least most : ℕ) (word : List ℕ) → SpellsIn least most word → IsUtf8 word
spelled_utf8 least most word h = digits_utf8 word h.digits.1
