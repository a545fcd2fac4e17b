-- Lists whose elements are bytes: numbers in their widths, texts, words and lists of parts.
use Rattle.std.proofs.Common.{◌≡◌, ℕ, zero, suc, ◌/◌, ◌%◌, ◌+◌, ◌<◌, ◌^◌, ℤ, Bool, true, false, cond, nat_lt, nat_le, List, [], ◌∷◌, ◌++◌, length, IsTrue, IsUtf8, refl, subst, ⊎_elim, arith}
use Rattle.std.specs.Int.{byte_at, bytes_high_first}
use Rattle.std.specs.List.{flat_map, list_all, AllByRecursion}
use Rattle.std.specs.Char.{is_ascii_digit, is_ascii_lowercase}
use Rattle.std.proofs.lemmas.Bool.{and_parts, eqb-true, leb-true, ltb-true, or_cases}
use Rattle.std.proofs.lemmas.Str.{IsUtf8-from_is_utf8}
use Rattle.hex.specs.Hex.{IsBytes}
use lib.Utf8.{encode, encodes, next, scalar, scalar_cases, scalars}
use Rattle.acc_stamp.proofs.Rising.{each_append}
use Rattle.acc_value.specs.declared.key.Key.{Key}
use Rattle.acc_wire.specs.Spelling.{i64_bytes, text_bytes, u16_bytes, u32_bytes, u64_bytes, IsShortText}
use Rattle.acc_txn.specs.BodySpelling.{key_bytes, listed}
use Rattle.acc_txn.specs.Words.{begins_word, continues_word, is_key, is_key_text, is_lower_word, is_name, is_text_value, is_word}
use Rattle.acc_txn.proofs.BodyShortness.{short_key_text, short_text, short_word}

abbrev pub AllBytes : List ℕ → Type 0
AllBytes bytes = AllByRecursion (λ (b : ℕ). b < 256) bytes

pub joined_bytes : (xs ys : List ℕ) → AllBytes xs → AllBytes ys → AllBytes (xs ++ ys)
joined_bytes xs ys = each_append (λ (b : ℕ). b < 256) xs ys

pub flat_bytes : {X : Type 0} (f : X → List ℕ) (xs : List X) → AllByRecursion (λ (x : X). AllBytes (f x)) xs → AllBytes (flat_map f xs)
flat_bytes f [] each = tt
flat_bytes f (x ∷ xs) each = joined_bytes (f x) (flat_map f xs) each.0 (flat_bytes f xs each.1)

pub are_bytes : (xs : List ℕ) → AllBytes xs → IsBytes xs
are_bytes [] all i = omega arith
are_bytes (x ∷ xs) all zero = all.0
are_bytes (x ∷ xs) all (suc i) = are_bytes xs all.1 i

-- ---- numbers

remainder : (n : ℕ) → n % 256 < 256
remainder n = omega arith

byte_small : (i n : ℕ) → byte_at i n < 256
byte_small zero n = remainder n
byte_small (suc i) n = remainder (n / 256 ^ suc i)

high_first : (k n : ℕ) → AllBytes (bytes_high_first k n)
high_first zero n = tt
high_first (suc k) n = (byte_small k n, high_first k n)

pub u16_are_bytes : (n : ℕ) → AllBytes (u16_bytes n)
unfolding u16_bytes
u16_are_bytes n = high_first 2 n

pub u32_are_bytes : (n : ℕ) → AllBytes (u32_bytes n)
unfolding u32_bytes
u32_are_bytes n = high_first 4 n

pub u64_are_bytes : (n : ℕ) → AllBytes (u64_bytes n)
unfolding u64_bytes
u64_are_bytes n = high_first 8 n

pub i64_are_bytes : (z : ℤ) → AllBytes (i64_bytes z)
unfolding i64_bytes
i64_are_bytes z = u64_are_bytes _

-- ---- texts

pub text_is_bytes : (text : List ℕ) → IsShortText text → AllBytes text → AllBytes (text_bytes text)
unfolding text_bytes
text_is_bytes text short all = (short, all)

pub list_is_bytes : {X : Type 0} (f : X → List ℕ) (xs : List X) → length xs < 256 → AllByRecursion (λ (x : X). AllBytes (f x)) xs → AllBytes (listed f xs)
unfolding listed
list_is_bytes f xs short each = (short, flat_bytes f xs each)

tail_small : (c : ℕ) → next c < 256
tail_small c = omega arith

char_bytes : (c : ℕ) → c < 1114112 → AllBytes (encode c)
unfolding encode
char_bytes c most = by (nat_lt c 128) refl (nat_lt c 2048) refl (nat_lt c 65536) refl
  where
    by : (x : Bool) → nat_lt c 128 ≡ x → (y : Bool) → nat_lt c 2048 ≡ y → (z : Bool) → nat_lt c 65536 ≡ z
        → AllBytes (cond x (c ∷ []) (cond y ((192 + c / 64) ∷ next c ∷ []) (cond z ((224 + c / 4096) ∷ next (c / 64) ∷ next c ∷ [])
        ((240 + c / 262144) ∷ next (c / 4096) ∷ next (c / 64) ∷ next c ∷ []))))
    by true is y is2 z is3 = let less = ltb-true c 128 is in (omega (arith, less), tt)
    by false is true is2 z is3 = let less = ltb-true c 2048 is2 in (omega (arith, less), (tail_small c, tt))
    by false is false is2 true is3 = let less = ltb-true c 65536 is3 in (omega (arith, less), (tail_small (c / 64), (tail_small c, tt)))
    by false is false is2 false is3 = (omega (arith, most), (tail_small (c / 4096), (tail_small (c / 64), (tail_small c, tt))))

scalar_most : (c : ℕ) → scalar c ≡ true → c < 1114112
scalar_most c is = ⊎_elim (λ low. omega (arith, low)) (λ high. high.1) (scalar_cases c is)

chars_bytes : (cs : List ℕ) → scalars cs ≡ true → AllBytes (encodes cs)
chars_bytes [] are = tt
chars_bytes (c ∷ cs) are =
    let parts = and_parts (scalar c) (scalars cs) are in
    joined_bytes (encode c) (encodes cs) (char_bytes c (scalar_most c parts.0)) (chars_bytes cs parts.1)

-- UTF-8 is bytes
utf8_bytes : (text : List ℕ) → IsUtf8 text → AllBytes text
utf8_bytes text is = subst AllBytes is.1.1 (chars_bytes is.0 is.1.0)

pub text_value_bytes : (text : List ℕ) → IsTrue (is_text_value text) → AllBytes (text_bytes text)
text_value_bytes text is = text_is_bytes text (short_text text is) (utf8_bytes text (IsUtf8-from_is_utf8 text (and_parts _ _ is).1))

lower_small : (c : ℕ) → is_ascii_lowercase c ≡ true → c < 256
lower_small c is = let most = leb-true c 122 (and_parts (nat_le 97 c) (nat_le c 122) is).1 in omega (arith, most)

digit_small : (c : ℕ) → is_ascii_digit c ≡ true → c < 256
digit_small c is = let most = leb-true c 57 (and_parts (nat_le 48 c) (nat_le c 57) is).1 in omega (arith, most)

begin_small : (c : ℕ) → begins_word c ≡ true → c < 256
begin_small c is = ⊎_elim (lower_small c) (λ same. let one : c ≡ 95 = eqb-true c 95 same in omega (arith, one)) (or_cases (is_ascii_lowercase c) _ is)

letter_small : (c : ℕ) → continues_word c ≡ true → c < 256
letter_small c is = ⊎_elim (begin_small c) (digit_small c) (or_cases (begins_word c) (is_ascii_digit c) is)

letters_small : (cs : List ℕ) → list_all continues_word cs ≡ true → AllBytes cs
letters_small [] are = tt
letters_small (c ∷ cs) are = let parts = and_parts (continues_word c) (list_all continues_word cs) are in (letter_small c parts.0, letters_small cs parts.1)

word_small : (word : List ℕ) → is_lower_word word ≡ true → AllBytes word
word_small [] is = tt
word_small (c ∷ cs) is = let parts = and_parts (begins_word c) (list_all continues_word cs) is in (begin_small c parts.0, letters_small cs parts.1)

pub name_bytes : (word : List ℕ) → IsTrue (is_name word) → AllBytes (text_bytes word)
name_bytes word is = text_is_bytes word (short_word word is) (word_small word (and_parts (nat_le (length word) 32) (is_lower_word word) (and_parts (is_word word) _ is).0).1)

pub key_has_bytes : (key : Key) → IsTrue (is_name key.table) → IsTrue (is_key_text key.key) → AllBytes (key_bytes key)
unfolding key_bytes
key_has_bytes key table text =
    joined_bytes (text_bytes key.table) (text_bytes key.key) (name_bytes key.table table)
    (text_is_bytes key.key (short_key_text key.key text) (utf8_bytes key.key (IsUtf8-from_is_utf8 key.key (and_parts _ _ text).1)))

pub key_is_bytes : (key : Key) → IsTrue (is_key key) → AllBytes (key_bytes key)
key_is_bytes key is = let parts = and_parts (is_name key.table) (is_key_text key.key) is in key_has_bytes key parts.0 parts.1
