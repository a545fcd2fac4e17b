-- The digits of a number are read as the number.
use Rattle.std.proofs.Common.{◌≡◌, ℕ, suc, ◌<◌, ◌^◌, true, false, List, [], ◌∷◌, ◌++◌, length, drop, ℤ, pos, negsuc, Some, refl, ap, ◌∙◌, inl, inr, arith}
use Rattle.std.specs.Prelude.{codes, nat_le}
use Rattle.std.specs.Char.{is_ascii_digit, digit_value}
use Rattle.std.specs.Fmt.{decimal, signed_decimal}
use lib.Signed.{mag}
use Rattle.std.specs.List.{list_all}
use Rattle.std.specs.Str.Parse.{AllDigits}
use Rattle.std.proofs.lemmas.Bool.{and_parts, or_parts, not-true, cond-true}
use Rattle.std.proofs.lemmas.Bool.Decides.{nat_tests}
use Rattle.std.proofs.lemmas.Fmt.{decimal_is_IsNumeral}
use Rattle.acc_base.specs.Numbers.{greatest_u64}
use Rattle.acc_token.specs.Tokens.{Token, Mark, Number, is_blank, after_blanks, begins_word, continues_word, number_of, token_of, token_len, token_at, behind}
use Rattle.acc_lang.specs.Grammar.{Spells, NumberSpelled}
use Rattle.acc_print.proofs.TokenFacts.{stops, take-front, drop-front, after-none, spaced, one_token}

digit_is : (c : ℕ) → digit_value c < 10 → is_ascii_digit c ≡ true
digit_is c h = grind (arith, nat_tests)

all_digits : (digits : List ℕ) → AllDigits 10 digits → list_all is_ascii_digit digits ≡ true
all_digits [] h = refl
all_digits (c ∷ cs) h = rw (digit_is c h.0) (all_digits cs h.1)

digit_no_letter : (c : ℕ) → is_ascii_digit c ≡ true → begins_word c ≡ false
digit_no_letter c h = grind (arith, nat_tests)

digit_no_blank : (c : ℕ) → is_ascii_digit c ≡ true → is_blank c ≡ false
digit_no_blank c h = grind (arith, nat_tests)

no_other_digit : (c : ℕ) → continues_word c ≡ false → is_ascii_digit c ≡ false
no_other_digit c h = (or_parts (begins_word c) (is_ascii_digit c) h).1

-- what no word goes on with is no digit
no_digit : (rest : List ℕ) → stops continues_word rest ≡ true → stops is_ascii_digit rest ≡ true
no_digit [] h = refl
no_digit (c ∷ cs) h = rw (no_other_digit c (not-true (continues_word c) h)) refl

digits_at : (digits rest : List ℕ) → 0 < length digits → list_all is_ascii_digit digits ≡ true → stops is_ascii_digit rest ≡ true → token_at (digits ++ rest) ≡ Number (number_of digits)
unfolding token_at token_of
digits_at [] rest some all stop = absurd (omega arith)
digits_at (c ∷ cs) rest some all stop =
    let parts = and_parts (is_ascii_digit c) (list_all is_ascii_digit cs) all in
    rw (after-none c (cs ++ rest) (digit_no_blank c parts.0))
    (rw (digit_no_letter c parts.0) (cond-true (is_ascii_digit c) _ _ parts.0 ∙ ap (λ ds. Number (number_of ds)) (take-front is_ascii_digit (c ∷ cs) rest all stop)))

behind_digits : (digits rest : List ℕ) → 0 < length digits → list_all is_ascii_digit digits ≡ true → stops is_ascii_digit rest ≡ true → behind (digits ++ rest) ≡ rest
unfolding behind token_len
behind_digits [] rest some all stop = absurd (omega arith)
behind_digits (c ∷ cs) rest some all stop =
    let parts = and_parts (is_ascii_digit c) (list_all is_ascii_digit cs) all in
    rw (after-none c (cs ++ rest) (digit_no_blank c parts.0))
    (rw (digit_no_letter c parts.0) (ap (λ len. drop len (c ∷ cs ++ rest)) (cond-true (is_ascii_digit c) _ _ parts.0) ∙ drop-front is_ascii_digit (c ∷ cs) rest all stop))

pub digits_spelled : (n : ℕ) (rest to : List ℕ) (tokens : List Token) → n < 2 ^ 64 → stops continues_word rest ≡ true → Spells tokens rest to →
    Spells (Number (Some n) ∷ tokens) (decimal n ++ rest) to
digits_spelled n rest to tokens small stop h =
    let numeral = decimal_is_IsNumeral n small in
    let all = all_digits (decimal n) numeral.0.1 in
    let ends = no_digit rest stop in
    let fits : nat_le n greatest_u64 ≡ true = grind arith in
    let value : number_of (decimal n) ≡ Some n = rw numeral.1 (rw fits refl) in
    one_token (Number (Some n)) tokens (decimal n ++ rest) rest to
    (digits_at (decimal n) rest numeral.0.0 all ends ∙ ap (λ number. Number number) value) (behind_digits (decimal n) rest numeral.0.0 all ends) h

minus_spelled : (rest to : List ℕ) (tokens : List Token) → Spells tokens rest to → Spells (Mark (codes "-") ∷ tokens) (45 ∷ rest) to
unfolding token_at token_of token_len behind after_blanks
minus_spelled rest to tokens h = (refl, h)

-- a number of 64 bits after a space
pub number_spelled : (number : ℤ) (rest : List ℕ) → mag number < 2 ^ 63 → stops continues_word rest ≡ true → NumberSpelled number (32 ∷ signed_decimal number ++ rest) rest
number_spelled (pos n) rest small stop =
    inl (n, omega arith, refl, spaced (Number (Some n)) [] (decimal n ++ rest) rest (digits_spelled n rest rest [] (omega arith) stop refl))
number_spelled (negsuc n) rest small stop =
    let digits = digits_spelled (suc n) rest rest [] (omega arith) stop refl in
    let minus = minus_spelled (decimal (suc n) ++ rest) rest (Number (Some (suc n)) ∷ []) digits in
    inr (suc n, omega arith, refl, spaced (Mark (codes "-")) (Number (Some (suc n)) ∷ []) (45 ∷ decimal (suc n) ++ rest) rest minus)
