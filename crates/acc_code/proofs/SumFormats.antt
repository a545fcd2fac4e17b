-- Words, keys and sums of a body: what is read is what is spelled.
use Rattle.std.proofs.Common.{◌≡◌, ℕ, ℤ, zero, suc, ◌≤◌, Bool, true, false, not, List, [], ◌∷◌, ◌++◌, length, refl, sym, ap, subst, IsTrue, arith}
use Rattle.std.specs.Prelude.{◌==◌, nat_lt}
use Rattle.std.specs.Int.{w64}
use Rattle.std.specs.Int.RustNames.{FitsSigned}
use Rattle.acc_wire.specs.Spelling.{u8_bytes, i64_bytes, text_bytes}
use Rattle.acc_wire.proofs.Fields.{IsField, u8_field, i64_field, text_field}
use Rattle.acc_value.specs.declared.key.Key.{Key}
use Rattle.acc_value.specs.Footprint.{used}
use Rattle.acc_txn.specs.declared.parts.Term.{Term}
use Rattle.acc_txn.specs.declared.parts.Term.TheVariants.{Number, Name, Null, Text}
use Rattle.acc_txn.specs.declared.parts.Part.{Part}
use Rattle.acc_txn.specs.Words.{is_name, is_key_text, is_text_value}
use Rattle.acc_txn.specs.Rules.{is_many}
use Rattle.acc_code.specs.Spelling.{key_bytes}
use Rattle.acc_txn.specs.BodySpelling.{term_bytes, sign_number, part_bytes, sum_bytes}
use Rattle.acc_code.specs.BodyReading.{word_at, key_text_at, key_at, use_at, let_number_at, term_behind, term_at, greatest_sign, part_at, sum_at}
use Rattle.acc_code.proofs.Formats.{made_field, made_of_two, tagged_field, done_field, same_field, passing_field, between_field, listed_field}
use Rattle.acc_code.proofs.CellFormats.{key_of_texts, text_value_field}
use Rattle.acc_code.proofs.BodyFits.{FitsWord, FitsKeyText, FitsKey, FitsUse, FitsName, FitsTerm, FitsPart, FitsSum}

pub word_field : IsField FitsWord text_bytes word_at
unfolding word_at
word_field = passing_field is_name text_field

key_text_field : IsField FitsKeyText text_bytes key_text_at
unfolding key_text_at
key_text_field = passing_field is_key_text text_field

key_field : IsField FitsKey key_bytes key_at
unfolding key_at
key_field = key_of_texts word_field key_text_field

pub use_field : (uses : List (Key × Bool)) (writes : Bool) → IsField (FitsUse uses writes) key_bytes (use_at uses writes)
unfolding use_at
use_field uses writes = passing_field (λ key. not (is_many (length (used uses key writes)))) key_field

pub let_number_field : (lets : ℕ) → IsField (FitsName lets) u8_bytes (let_number_at lets)
unfolding let_number_at
let_number_field lets = passing_field (λ name. nat_lt name lets) u8_field

-- ---- terms

abbrev term_tag : Term → ℕ
term_tag (Number number) = 0
term_tag (Name name) = 1
term_tag Null = 2
term_tag (Text text) = 3

abbrev term_tail : Term → List ℕ
term_tail (Number number) = i64_bytes number
term_tail (Name name) = u8_bytes name
term_tail Null = []
term_tail (Text text) = text_bytes text

term_bytes_are : (t : Term) → u8_bytes (term_tag t) ++ term_tail t ≡ term_bytes t
unfolding term_bytes
term_bytes_are (Number number) = refl
term_bytes_are (Name name) = refl
term_bytes_are Null = refl
term_bytes_are (Text text) = refl

term_within : (t : Term) → (0 ≤ term_tag t) × (term_tag t ≤ 3)
term_within (Number number) = (omega arith, omega arith)
term_within (Name name) = (omega arith, omega arith)
term_within Null = (omega arith, omega arith)
term_within (Text text) = (omega arith, omega arith)

number_only : (lets : ℕ) (t : Term) → FitsTerm lets t → term_tag t ≡ 0 → (n : ℤ) × FitsSigned w64 n × (t ≡ Number n)
number_only lets (Number number) fits e = (number, fits, refl)
number_only lets (Name name) fits e = absurd (omega (arith, e))
number_only lets Null fits e = absurd (omega (arith, e))
number_only lets (Text text) fits e = absurd (omega (arith, e))

name_only : (lets : ℕ) (t : Term) → FitsTerm lets t → term_tag t ≡ 1 → (n : ℕ) × FitsName lets n × (t ≡ Name n)
name_only lets (Number number) fits e = absurd (omega (arith, e))
name_only lets (Name name) fits e = (name, fits, refl)
name_only lets Null fits e = absurd (omega (arith, e))
name_only lets (Text text) fits e = absurd (omega (arith, e))

null_only : (t : Term) → term_tag t ≡ 2 → t ≡ Null
null_only (Number number) e = absurd (omega (arith, e))
null_only (Name name) e = absurd (omega (arith, e))
null_only Null e = refl
null_only (Text text) e = absurd (omega (arith, e))

text_only : (lets : ℕ) (t : Term) → FitsTerm lets t → term_tag t ≡ 3 → (text : List ℕ) × IsTrue (is_text_value text) × (t ≡ Text text)
text_only lets (Number number) fits e = absurd (omega (arith, e))
text_only lets (Name name) fits e = absurd (omega (arith, e))
text_only lets Null fits e = absurd (omega (arith, e))
text_only lets (Text text) fits e = (text, fits, refl)

term_behind_field : (lets n : ℕ) → (0 ≤ n) × (n ≤ 3) → IsField (λ t. FitsTerm lets t × (term_tag t ≡ n)) term_tail (term_behind lets n)
term_behind_field lets zero h = same_field (made_field Number term_tail (λ n fits. refl) i64_field) (record {
  to = λ t m. subst (λ (x : Term). FitsTerm lets x × (term_tag x ≡ 0)) (sym m.2) (m.1, refl);
  from = λ t f. number_only lets t f.0 f.1;
  bytes_are = λ t f. refl;
})
term_behind_field lets (suc zero) h = same_field (made_field Name term_tail (λ n fits. refl) (let_number_field lets)) (record {
  to = λ t m. subst (λ (x : Term). FitsTerm lets x × (term_tag x ≡ 1)) (sym m.2) (m.1, refl);
  from = λ t f. name_only lets t f.0 f.1;
  bytes_are = λ t f. refl;
})
term_behind_field lets (suc (suc zero)) h = same_field (done_field Null) (record {
  to = λ t e. subst (λ (x : Term). FitsTerm lets x × (term_tag x ≡ 2)) (sym e) (tt, refl);
  from = λ t f. null_only t f.1;
  bytes_are = λ t f. ap term_tail (sym (null_only t f.1));
})
term_behind_field lets (suc (suc (suc zero))) h = same_field (made_field Text term_tail (λ t fits. refl) text_value_field) (record {
  to = λ t m. subst (λ (x : Term). FitsTerm lets x × (term_tag x ≡ 3)) (sym m.2) (m.1, refl);
  from = λ t f. text_only lets t f.0 f.1;
  bytes_are = λ t f. refl;
})
term_behind_field lets (suc (suc (suc (suc n)))) h = absurd (omega (arith, h.1))

term_field : (lets : ℕ) → IsField (FitsTerm lets) term_bytes (term_at lets)
unfolding term_at
term_field lets = same_field (tagged_field 0 3 term_tag term_tail (omega arith) (λ t fits. term_within t) (term_behind_field lets)) (record { to = λ t h. h; from = λ t h. h; bytes_are = λ t h. term_bytes_are t })

-- ---- sums

most_sign : (front : List Part) → greatest_sign front ≤ 1
most_sign [] = omega arith
most_sign (p ∷ front) = omega arith

sign-is_minus : (n : ℕ) → n ≤ 1 → sign_number (n == 1) ≡ n
sign-is_minus zero h = refl
sign-is_minus (suc zero) h = refl
sign-is_minus (suc (suc n)) h = absurd (omega arith)

is_minus-sign : (minus : Bool) → (sign_number minus == 1) ≡ minus
is_minus-sign true = refl
is_minus-sign false = refl

abbrev make_part : ℕ → Term → Part
make_part sign term = record { minus = sign == 1; term = term }

abbrev part_is : Bool → Term → Part
part_is minus term = record { minus = minus; term = term }

part_field : (lets : ℕ) (front : List Part) → IsField (FitsPart lets front) part_bytes (part_at lets front)
unfolding part_bytes part_at
part_field lets front =
    let sign : (n : ℕ) → n ≤ greatest_sign front → sign_number (n == 1) ≡ n = λ n le. sign-is_minus n (omega (arith, most_sign front)) in
    same_field (made_of_two make_part (λ p. u8_bytes (sign_number p.minus) ++ term_bytes p.term) (λ n t f g. ap (λ (m : ℕ). u8_bytes m ++ term_bytes t) (sign n f.1)) (between_field 0 (greatest_sign front) (omega (arith, most_sign front))) (λ _ _. term_field lets)) (record {
      to = λ p m. subst (FitsPart lets front) (sym m.4) (subst (λ (n : ℕ). n ≤ greatest_sign front) (sym (sign m.0 m.2.1)) m.2.1, m.3);
      from = λ p f. (sign_number p.minus, p.term, (omega arith, f.0), f.1, ap (λ (b : Bool). part_is b p.term) (sym (is_minus-sign p.minus)));
      bytes_are = λ p f. refl;
    })

pub sum_field : (lets : ℕ) → IsField (FitsSum lets) sum_bytes (sum_at lets)
unfolding sum_bytes sum_at
sum_field lets = listed_field (part_field lets) 1 16 (omega arith)
