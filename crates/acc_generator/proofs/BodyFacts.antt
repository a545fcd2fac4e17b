-- The texts of generated transactions are read as their bodies.
use Rattle.std.proofs.Common.{◌≡◌, ◌⊎◌, ℕ, ◌+◌, ◌/◌, ◌%◌, ◌^◌, ◌<◌, ◌≤◌, Bool, true, false, ◌&&◌, cond, List, [], ◌∷◌, ◌++◌, length, flat_map, nat_le, nat_lt, Ok, codes, decimal, inl, inr, refl, sym, ap, ap₂, ◌∙◌, arith, append_assoc, append-nil, lt-ltb, le-ltb, ne_eqb}
use Rattle.std.specs.declared.cmp.Ordering.TheVariants.{Less, Equal, Greater}
use Rattle.std.specs.FinMap.Entries.{by_order}
use Rattle.std.specs.Str.{is_utf8}
use Rattle.std.proofs.lemmas.Bool.{cases_lt}
use Rattle.std.proofs.lemmas.Str.{IsUtf8-append, is_utf8-from_IsUtf8}
use Rattle.json.proofs.Printed.Utf8.{IsUtf8-are_ascii}
use Rattle.acc_value.specs.declared.key.Key.{Key}
use Rattle.acc_value.specs.Key.{key_cmp}
use Rattle.acc_value.specs.Pairs.{put}
use Rattle.acc_txn.specs.declared.parts.BodyParts.{BodyParts}
use Rattle.acc_txn.specs.Rules.{is_many, IsBody}
use Rattle.acc_txn.specs.Words.{is_key}
use Rattle.acc_print.specs.Canonical.{canonical_text, get_text, let_text, quoted_byte, set_text, where_text}
use Rattle.acc_lang.specs.Reading.{reading}
use Rattle.acc_lang.specs.Texts.{has_text_value}
use Rattle.acc_lang.proofs.Obeys.{fits_from_rules}
use Rattle.acc_lang.proofs.OnlyBody.{reading_only}
use Rattle.acc_print.specs.Numbers.{IsSaid}
use Rattle.acc_print.proofs.BodyFacts.{canonical_spelled}
use Rattle.acc_generator.specs.Draws.{draw_after}
use Rattle.acc_generator.specs.Texts.{first_text, later_text, text_from, two_digits}
use Rattle.acc_generator.specs.Bodies.{body_from, first_body, key_of, later_body}
use Rattle.acc_generator.proofs.DrawFacts.{first_text_from, later_text_from}
use Rattle.acc_generator.proofs.TextFacts.{below_100, digits_are, digits_utf8, small}

-- ---- keys

-- no digit is a quote
digits_quoted : (n : ℕ) → n < 100 → flat_map quoted_byte (two_digits n) ≡ two_digits n
digits_quoted n lt = rw (digits_are n lt) (rw (ne_eqb (48 + n / 10) 39 (λ e. omega arith), ne_eqb (48 + n % 10) 39 (λ e. omega arith)) refl)

key_text_utf8 : (n : ℕ) → n < 100 → is_utf8 (107 ∷ two_digits n) ≡ true
key_text_utf8 n lt = is_utf8-from_IsUtf8 _ (IsUtf8-append (107 ∷ []) (two_digits n) (IsUtf8-are_ascii _ refl) (digits_utf8 n lt))

key_text_length : (n : ℕ) → n < 100 → length (107 ∷ two_digits n) ≡ 3
key_text_length n lt = ap (λ (l : List ℕ). length (107 ∷ l)) (digits_are n lt)

key_kept : (n : ℕ) → n < 100 → is_key (key_of n) ≡ true
key_kept n lt =
    ap (λ (l : ℕ). nat_le 1 l && nat_le l 64 && is_utf8 (107 ∷ two_digits n)) (key_text_length n lt) ∙ key_text_utf8 n lt

-- ---- rules

few_uses : (k q : Key) (reads writes : Bool) → is_many (length (put ((k, reads) ∷ []) q writes)) ≡ false
few_uses k q reads writes =
    let old : Key × Bool = (k, reads) in
    let new : Key × Bool = (q, writes) in
    let same : Key × Bool = (k, writes) in
    elim (key_cmp q k) as (λ o. is_many (length (by_order {A = List (Key × Bool)} o (new ∷ old ∷ []) (same ∷ []) (old ∷ new ∷ []))) ≡ false) [
      | Less ↦ refl
      | Equal ↦ refl
      | Greater ↦ refl
    ]

first_rules : (n : ℕ) → n < 100 → IsBody (first_body n)
first_rules n lt = rw (key_kept n lt) refl

later_rules : (read written added : ℕ) → read < 100 → written < 100 → IsBody (later_body read written added)
later_rules read written added lt lt' = rw (few_uses (key_of read) (key_of written) _ _, key_kept read lt, key_kept written lt') refl

-- each body keeps its rules
pub rules_kept : (state number : ℕ) → IsBody (body_from state number)
unfolding body_from
rules_kept state number = cases (cases_lt number 64)
  where
    cases : (number < 64) ⊎ (64 ≤ number) → IsBody (body_from state number)
    cases (inl lt) = rw (lt-ltb number 64 lt) (first_rules number (omega arith))
    cases (inr le) =
        rw (le-ltb number 64 le)
        (later_rules (draw_after state 0 % 64) (draw_after state 1 % 64) (draw_after state 2 % 100) (small (draw_after state 0)) (small (draw_after state 1)))

-- and has no text value
pub numbers_alone : (state number : ℕ) → has_text_value (body_from state number) ≡ false
unfolding body_from
numbers_alone state number =
    elim (nat_lt number 64) as (λ b. has_text_value (cond b (first_body number) (later_body (draw_after state 0 % 64) (draw_after state 1 % 64) (draw_after state 2 % 100))) ≡ false) [
      | true ↦ refl
      | false ↦ refl
    ]

first_said : (n : ℕ) → n < 100 → IsSaid false (first_body n)
first_said n lt = rw (lt-ltb n (2 ^ 63) (omega arith)) refl

later_said : (read written added : ℕ) → added < 100 → IsSaid false (later_body read written added)
later_said read written added lt = rw (lt-ltb added (2 ^ 63) (omega arith)) refl

-- ---- canonical texts

first_shape : (p w d q x y z : List ℕ) → p ++ (((((d ++ []) ++ (w ++ (q ++ x))) ++ y) ++ []) ++ z) ≡ (p ++ d) ++ ((w ++ q) ++ ((x ++ y) ++ z))
first_shape p w d q x y z = simp (append_assoc, append-nil)

later_shape : (a q x b s u d w v y z : List ℕ)
    → (((a ++ (((q ++ x) ++ b) ++ [])) ++ s) ++ ((((u ++ (d ++ [])) ++ (w ++ (v ++ x))) ++ y) ++ [])) ++ z
    ≡ (((a ++ q) ++ (((x ++ b) ++ s) ++ u)) ++ d) ++ ((w ++ v) ++ ((x ++ y) ++ z))
later_shape a q x b s u d w v y z = simp (append_assoc, append-nil)

first_canonical : (n : ℕ) → n < 100 → canonical_text (first_body n) ≡ first_text n
unfolding set_text where_text
first_canonical n lt =
    let begin = codes "BEGIN TRANSACTION UPDATE t SET v = " in
    let key = codes " WHERE k = 'k" in
    let commit = codes " COMMIT TRANSACTION" in
    ap (λ (q : List ℕ). begin ++ (((((decimal n ++ []) ++ (key ++ (q ++ codes "'"))) ++ codes ";") ++ []) ++ commit)) (digits_quoted n lt)
    ∙ first_shape begin key (decimal n) (two_digits n) (codes "'") (codes ";") commit

later_canonical : (read written added : ℕ) → read < 100 → written < 100 → canonical_text (later_body read written added) ≡ later_text read written added
unfolding let_text get_text set_text where_text
later_canonical read written added lt lt' =
    let begin = codes "BEGIN TRANSACTION LET r = (SELECT v FROM t WHERE k = 'k" in
    let update = codes " UPDATE t SET v = r.v + " in
    let key = codes " WHERE k = 'k" in
    let commit = codes " COMMIT TRANSACTION" in
    ap₂
    (λ (q v : List ℕ). (((begin ++ (((q ++ codes "'") ++ codes ");") ++ [])) ++ codes " SELECT r.v;") ++ ((((update ++ (decimal added ++ [])) ++ (key ++ (v ++ codes "'"))) ++ codes ";") ++ [])) ++ commit)
    (digits_quoted read lt) (digits_quoted written lt')
    ∙ later_shape begin (two_digits read) (codes "'") (codes ");") (codes " SELECT r.v;") update (decimal added) key (two_digits written) (codes ";") commit

-- ---- reading

read_as : (parts : BodyParts) (text : List ℕ) → IsBody parts → IsSaid false parts → canonical_text parts ≡ text → reading false text ≡ Ok parts
read_as parts text rules said same =
    let fits = fits_from_rules parts rules in
    ap (reading false) (sym same) ∙ reading_only false (canonical_text parts) parts fits.0 (canonical_spelled false parts rules said) fits.1

first_read : (n : ℕ) → n < 100 → reading false (first_text n) ≡ Ok (first_body n)
first_read n lt = read_as (first_body n) (first_text n) (first_rules n lt) (first_said n lt) (first_canonical n lt)

later_read : (read written added : ℕ) → read < 100 → written < 100 → added < 100 → reading false (later_text read written added) ≡ Ok (later_body read written added)
later_read read written added r w a =
    read_as (later_body read written added) (later_text read written added) (later_rules read written added r w) (later_said read written added a) (later_canonical read written added r w)

pub text_read : (state number : ℕ) → reading false (text_from state number) ≡ Ok (body_from state number)
unfolding body_from
text_read state number = cases (cases_lt number 64)
  where
    cases : (number < 64) ⊎ (64 ≤ number) → reading false (text_from state number) ≡ Ok (body_from state number)
    cases (inl lt) = rw (lt-ltb number 64 lt) (ap (reading false) (first_text_from state number lt) ∙ first_read number (omega arith))
    cases (inr le) =
        rw (le-ltb number 64 le) (ap (reading false) (later_text_from state number le)
        ∙ later_read (draw_after state 0 % 64) (draw_after state 1 % 64) (draw_after state 2 % 100) (small (draw_after state 0)) (small (draw_after state 1)) (below_100 (draw_after state 2)))
