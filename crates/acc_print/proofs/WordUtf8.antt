-- Names and numbers are ASCII.
use Rattle.std.proofs.Common.{◌≡◌, ℕ, zero, suc, ◌<◌, ◌/◌, ◌%◌, true, false, List, [], ◌∷◌, ℤ, pos, negsuc, arith}
use Rattle.std.specs.Prelude.{◌==◌}
use Rattle.std.specs.List.{list_all}
use Rattle.std.specs.Fmt.{decimal, signed_decimal, digits, digits_onto, digit_glyph}
use Rattle.std.specs.Str.{IsUtf8, IsAscii, is_utf8}
use Rattle.std.proofs.lemmas.Bool.{and_parts, cond_both}
use Rattle.std.proofs.lemmas.Bool.Decides.{nat_tests}
use Rattle.std.proofs.lemmas.Str.{IsUtf8-from_ascii, IsUtf8-from_is_utf8}
use Rattle.std.proofs.lemmas.Str.Ascii.{IsAscii-cons, IsAscii-nil}
use Rattle.acc_txn.specs.Words.{begins_word, continues_word, is_lower_word, is_word, is_name, is_key_text, is_text_value}

continues-ascii : (c : ℕ) → continues_word c ≡ true → c < 128
continues-ascii c h = grind (arith, nat_tests)

begins-ascii : (c : ℕ) → begins_word c ≡ true → c < 128
begins-ascii c h = grind (arith, nat_tests)

letters-ascii : (bytes : List ℕ) → list_all continues_word bytes ≡ true → IsAscii bytes
letters-ascii [] h = IsAscii-nil
letters-ascii (c ∷ cs) h =
    let parts = and_parts (continues_word c) (list_all continues_word cs) h in
    IsAscii-cons c cs (continues-ascii c parts.0) (letters-ascii cs parts.1)

word-ascii : (word : List ℕ) → is_lower_word word ≡ true → IsAscii word
word-ascii [] h = IsAscii-nil
word-ascii (c ∷ cs) h =
    let parts = and_parts (begins_word c) (list_all continues_word cs) h in
    IsAscii-cons c cs (begins-ascii c parts.0) (letters-ascii cs parts.1)

pub lower_word : (word : List ℕ) → is_name word ≡ true → is_lower_word word ≡ true
lower_word word h = (and_parts _ (is_lower_word word) (and_parts (is_word word) _ h).0).1

pub name-IsUtf8 : (word : List ℕ) → is_name word ≡ true → IsUtf8 word
name-IsUtf8 word h = IsUtf8-from_ascii word (word-ascii word (lower_word word h))

glyph-ascii : (n : ℕ) → digit_glyph false (n % 10) < 128
glyph-ascii n = grind (arith, nat_tests)

onto-ascii : (k n : ℕ) (text : List ℕ) → IsAscii text → IsAscii (digits_onto k 10 false n text)
onto-ascii zero n text h = h
onto-ascii (suc k) n text h =
    let more = IsAscii-cons (digit_glyph false (n % 10)) text (glyph-ascii n) h in
    cond_both (n / 10 == 0) _ _ IsAscii (λ e. more) (λ e. onto-ascii k (n / 10) _ more)

decimal-ascii : (n : ℕ) → IsAscii (decimal n)
unfolding digits
decimal-ascii n = onto-ascii 64 n [] IsAscii-nil

pub number-IsUtf8 : (z : ℤ) → IsUtf8 (signed_decimal z)
number-IsUtf8 (pos n) = IsUtf8-from_ascii _ (decimal-ascii n)
number-IsUtf8 (negsuc n) = IsUtf8-from_ascii _ (IsAscii-cons 45 _ (omega arith) (decimal-ascii (suc n)))

pub key_text-IsUtf8 : (text : List ℕ) → is_key_text text ≡ true → IsUtf8 text
key_text-IsUtf8 text h = IsUtf8-from_is_utf8 text (and_parts _ (is_utf8 text) h).1

pub value-IsUtf8 : (text : List ℕ) → is_text_value text ≡ true → IsUtf8 text
value-IsUtf8 text h = IsUtf8-from_is_utf8 text (and_parts _ (is_utf8 text) h).1
