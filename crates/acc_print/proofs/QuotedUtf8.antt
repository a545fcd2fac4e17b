-- A text in quotes stays UTF-8: a quote is a byte of its own in UTF-8, so that doubling it doubles a character.
use Rattle.std.proofs.Common.{◌≡◌, ℕ, suc, ◌<◌, ◌≤◌, true, List, [], ◌∷◌, length, get_or, refl, sym, ap, subst, inl, inr, arith}
use Rattle.std.specs.List.{flat_map}
use Rattle.std.specs.Char.{encode_utf8, IsScalar}
use Rattle.std.specs.Str.{IsUtf8, encode_utf8_all}
use Rattle.std.proofs.lemmas.Bool.{cases_eq, cases_lt, ne_eqb, eq-eqb, and_parts}
use Rattle.std.proofs.lemmas.List.{append-nil}
use Rattle.std.proofs.lemmas.Grind.{flat_map-append}
use Rattle.std.proofs.lemmas.Str.{IsUtf8-append, IsUtf8-nil, IsUtf8-encode, IsUtf8-from_ascii, encode_ascii, inside_one}
use Rattle.std.proofs.lemmas.Str.Ascii.{IsAscii-cons, IsAscii-nil}
use lib.Utf8.{scalar, scalars}
use Rattle.acc_print.specs.Canonical.{quoted_byte}

-- a byte that isn't a quote stands as it is
pub plain_byte : (byte : ℕ) → (byte ≡ 39 → ⊥) → quoted_byte byte ≡ byte ∷ []
plain_byte byte h = rw (ne_eqb byte 39 h) refl

pub quote_twice : (byte : ℕ) → byte ≡ 39 → quoted_byte byte ≡ 39 ∷ 39 ∷ []
quote_twice byte h = rw (eq-eqb byte 39 h) refl

NoQuote : List ℕ → Type 0
NoQuote bytes = (k : ℕ) → k < length bytes → get_or bytes k 0 ≡ 39 → ⊥

no_quote : (bytes : List ℕ) → ((k : ℕ) → k < length bytes → get_or bytes k 0 ≡ 39 → ⊥) → flat_map quoted_byte bytes ≡ bytes
no_quote [] h = refl
no_quote (byte ∷ bytes) h =
    let first : byte ≡ 39 → ⊥ = h 0 (omega arith) in
    let others = no_quote bytes (λ k within. h (suc k) (omega arith)) in
    rw (plain_byte byte first) (ap (λ bs. byte ∷ bs) others)

-- a character above ASCII has no byte of ASCII
wide_char : (c : ℕ) → 128 ≤ c → flat_map quoted_byte (encode_utf8 c) ≡ encode_utf8 c
wide_char c wide =
    no_quote (encode_utf8 c) (λ k within is.
    let same : c ≡ get_or (encode_utf8 c) k 0 = inside_one c [] (encode_utf8 c) k (sym (append-nil (encode_utf8 c))) within (omega arith) in
    omega arith)

ascii_byte : (c : ℕ) → c < 128 → IsUtf8 (quoted_byte c)
ascii_byte c small =
    elim (cases_eq c 39) [
      | inl is ↦ subst IsUtf8 (sym (quote_twice c is)) (IsUtf8-from_ascii (39 ∷ 39 ∷ []) (IsAscii-cons 39 (39 ∷ []) (omega arith) (IsAscii-cons 39 [] (omega arith) IsAscii-nil)))
      | inr other ↦ subst IsUtf8 (sym (plain_byte c other)) (IsUtf8-from_ascii (c ∷ []) (IsAscii-cons c [] small IsAscii-nil))
    ]

quoted_char : (c : ℕ) → IsScalar c → IsUtf8 (flat_map quoted_byte (encode_utf8 c))
quoted_char c is =
    elim (cases_lt c 128) [
      | inl small ↦ rw (encode_ascii c small) (rw (append-nil (quoted_byte c)) (ascii_byte c small))
      | inr wide ↦ subst IsUtf8 (sym (wide_char c wide)) (IsUtf8-encode c is)
    ]

quoted_chars : (cs : List ℕ) → scalars cs ≡ true → IsUtf8 (flat_map quoted_byte (encode_utf8_all cs))
quoted_chars [] h = IsUtf8-nil
quoted_chars (c ∷ cs) h =
    let parts = and_parts (scalar c) (scalars cs) h in
    subst IsUtf8 (sym (flat_map-append quoted_byte (encode_utf8 c) (encode_utf8_all cs)))
    (IsUtf8-append _ _ (quoted_char c parts.0) (quoted_chars cs parts.1))

pub content-IsUtf8 : (text : List ℕ) → IsUtf8 text → IsUtf8 (flat_map quoted_byte text)
content-IsUtf8 text h = subst (λ bytes. IsUtf8 (flat_map quoted_byte bytes)) h.1.1 (quoted_chars h.0 h.1.0)
