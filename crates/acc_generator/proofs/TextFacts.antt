-- The texts of generated transactions.
use Rattle.std.proofs.Common.{◌≡◌, ◌⊎◌, ℕ, ◌+◌, ◌/◌, ◌%◌, ◌^◌, ◌<◌, ◌≤◌, true, nat_le, List, [], ◌∷◌, ◌++◌, length, codes, decimal, IsUtf8, inl, inr, refl, sym, ap, ap₂, subst, ◌∙◌, arith, append_assoc, length-append}
use Rattle.std.proofs.lemmas.Bool.{cases_lt, leb-true}
use Rattle.std.proofs.lemmas.Fmt.{IsAscii-decimal, decimal_digit, length-decimal-le}
use Rattle.std.proofs.lemmas.Str.{IsUtf8-append, IsUtf8-from_ascii}
use Rattle.json.proofs.Printed.Utf8.{are_ascii, IsUtf8-are_ascii}
use Rattle.acc_generator.specs.Draws.{draw_after}
use Rattle.acc_generator.specs.Texts.{end_text, first_text, later_text, text_from, two_digits}
use Rattle.acc_generator.proofs.DrawFacts.{first_text_from, later_text_from}

pub joined : (o a r s b c d e t u v : List ℕ) → t ≡ o ++ (a ++ (r ++ (s ++ b))) → u ≡ t ++ (c ++ d) → v ≡ u ++ e → v ≡ o ++ ((((a ++ (r ++ s)) ++ (b ++ c)) ++ d) ++ e)
joined o a r s b c d e t u v p q h = h ∙ ap (λ (l : List ℕ). l ++ e) (q ∙ ap (λ (l : List ℕ). l ++ (c ++ d)) p) ∙ simp append_assoc

pub small : (n : ℕ) → n % 64 < 100
small n = omega arith

pub below_100 : (n : ℕ) → n % 100 < 100
below_100 n = omega arith

-- ---- two digits

pub digits_are : (n : ℕ) → n < 100 → two_digits n ≡ (48 + n / 10) ∷ (48 + n % 10) ∷ []
digits_are n lt = ap₂ (λ (a b : List ℕ). a ++ b) (decimal_digit (n / 10) (omega arith)) (decimal_digit (n % 10) (omega arith))

decimal_utf8 : (n : ℕ) → n < 2 ^ 64 → IsUtf8 (decimal n)
decimal_utf8 n lt = IsUtf8-from_ascii (decimal n) (IsAscii-decimal n lt)

pub digits_utf8 : (n : ℕ) → n < 100 → IsUtf8 (two_digits n)
digits_utf8 n lt = IsUtf8-append (decimal (n / 10)) (decimal (n % 10)) (decimal_utf8 (n / 10) (omega arith)) (decimal_utf8 (n % 10) (omega arith))

-- ---- texts of bytes that are UTF-8, and their lengths

pub record IsShort (most : ℕ) (text : List ℕ) : Type 0 where
  pub utf8 : IsUtf8 text
  pub short : length text ≤ most

short_append : (m n : ℕ) (s t : List ℕ) → IsShort m s → IsShort n t → IsShort (m + n) (s ++ t)
short_append m n s t h k = record { utf8 = IsUtf8-append s t h.utf8 k.utf8; short = omega (arith, h.short, k.short, length-append s t) }

short_digits : (n : ℕ) → n < 100 → IsShort 2 (two_digits n)
short_digits n lt = record { utf8 = digits_utf8 n lt; short = omega (arith, ap length (digits_are n lt)) }

short_decimal : (n : ℕ) → n < 100 → IsShort 2 (decimal n)
short_decimal n lt = record { utf8 = decimal_utf8 n (omega arith); short = length-decimal-le 2 n (omega arith) lt (omega arith) }

short_code : (m : ℕ) (text : List ℕ) → are_ascii text ≡ true → nat_le (length text) m ≡ true → IsShort m text
short_code m text ascii few = record { utf8 = IsUtf8-are_ascii text ascii; short = leb-true (length text) m few }

short_end : (n : ℕ) → n < 100 → IsShort 82 (end_text n)
short_end n lt =
    short_append 42 40 _ _ (short_append 40 2 _ _ (short_code 40 (codes " WHERE k = 'k") refl refl) (short_digits n lt)) (short_code 40 (codes "'; COMMIT TRANSACTION") refl refl)

short_first : (n : ℕ) → n < 100 → IsShort 142 (first_text n)
short_first n lt =
    short_append 60 82 _ _ (short_append 58 2 _ _ (short_code 58 (codes "BEGIN TRANSACTION UPDATE t SET v = ") refl refl) (short_decimal n lt)) (short_end n lt)

short_later : (read written added : ℕ) → read < 100 → written < 100 → added < 100 → IsShort 250 (later_text read written added)
short_later read written added r w a =
    short_append 168 82 _ _ (short_append 166 2 _ _ (short_append 102 64 _ _ (short_append 100 2 _ _ (short_code 100 (codes "BEGIN TRANSACTION LET r = (SELECT v FROM t WHERE k = 'k") refl refl) (short_digits read r)) (short_code 64 (codes "'); SELECT r.v; UPDATE t SET v = r.v + ") refl refl)) (short_decimal added a)) (short_end written w)

pub text_short : (state number : ℕ) → IsShort 250 (text_from state number)
text_short state number = cases (cases_lt number 64)
  where
    cases : (number < 64) ⊎ (64 ≤ number) → IsShort 250 (text_from state number)
    cases (inl lt) =
        let h = short_first number (omega arith) in
        subst (IsShort 250) (sym (first_text_from state number lt)) (record { utf8 = h.utf8; short = omega (arith, h.short) })
    cases (inr le) =
        subst (IsShort 250) (sym (later_text_from state number le))
        (short_later (draw_after state 0 % 64) (draw_after state 1 % 64) (draw_after state 2 % 100) (small (draw_after state 0)) (small (draw_after state 1)) (below_100 (draw_after state 2)))
