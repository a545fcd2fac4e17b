-- A text at the front of some bytes.
use Rattle.std.proofs.Common.{◌≡◌, ℕ, ◌+◌, ◌<◌, Bool, true, false, cond, ltb, List, [], ◌∷◌, ◌++◌, length, take, Option, Some, None, Ok, Err, refl, sym, ap, ◌∙◌, arith, ◌⊎◌, inl, inr}
use Rattle.std.specs.Prelude.{MatchOption, IfSome, IfNone}
use Rattle.std.specs.List.{IsSplitAt}
use Rattle.std.proofs.lemmas.List.{take-append-drop, length-append}
use Rattle.acc_wire.specs.declared.error.WireError.{WireError}
use Rattle.acc_wire.specs.declared.error.WireKind.TheVariants.{Short}
use Rattle.acc_wire.specs.Spelling.{text_bytes, IsShortText}
use Rattle.acc_wire.specs.Reading.{Unread, Passes, AreBytes, skip, fault_at, text_at}
use Rattle.acc_wire.proofs.Fields.{unread, text_field, length-text_bytes}

-- no text stands in no bytes
pub text_of_none : (bytes text rest : List ℕ) → length bytes ≡ 0 → bytes ≡ text_bytes text ++ rest → ⊥
text_of_none bytes text rest none e = omega (arith, ap length e, length-append (text_bytes text) rest, length-text_bytes text)

text_of_few : (bytes behind text rest : List ℕ) (n : ℕ) → bytes ≡ n ∷ behind → length behind < n → bytes ≡ text_bytes text ++ rest → ⊥
unfolding text_bytes
text_of_few bytes behind text rest n e few f =
    let both : n ∷ behind ≡ length text ∷ (text ++ rest) = sym e ∙ f in
    let n-is : n ≡ length text = cc in
    let behind-is : behind ≡ text ++ rest = cc in
    omega (arith, ap length behind-is, length-append text rest)

text_of_parts : (bytes behind front back : List ℕ) (n : ℕ) → bytes ≡ n ∷ behind → n < 256 → IsSplitAt behind n front back → IsShortText front × (bytes ≡ text_bytes front ++ back)
unfolding text_bytes
text_of_parts bytes behind front back n e lt p =
    let joined : front ++ back ≡ behind = rw (p.1, p.2) (take-append-drop n behind) in
    (omega (arith, p.3), rw (p.3, joined) e)

-- the two parts of what is behind the length, or that it has too few bytes
pub split_whole : {X : Type 0} (front back : X → List ℕ) (r : Option X) (bytes behind : List ℕ) (n m : ℕ) → bytes ≡ n ∷ behind → m ≡ n → n < 256 → MatchOption r (length behind < m) (λ p. IsSplitAt behind m (front p) (back p)) → IfSome r (λ p. IsShortText (front p) × (bytes ≡ text_bytes (front p) ++ back p))
split_whole front back None bytes behind n m e same lt h = tt
split_whole front back (Some p) bytes behind n m e same lt h = text_of_parts bytes behind (front p) (back p) n e lt (rw same at h)

pub split_cut : {X : Type 0} (front back : X → List ℕ) (r : Option X) (bytes behind : List ℕ) (n m : ℕ) → bytes ≡ n ∷ behind → m ≡ n → MatchOption r (length behind < m) (λ p. IsSplitAt behind m (front p) (back p)) → IfNone r ((text rest : List ℕ) → IsShortText text → bytes ≡ text_bytes text ++ rest → ⊥)
split_cut front back None bytes behind n m e same h = λ text rest short f. text_of_few bytes behind text rest n e (omega arith) f
split_cut front back (Some p) bytes behind n m e same h = tt

by_test : {A : Type 0} (b : Bool) (e : WireError) (x : A) → ((y : A) × (cond b (Err e) (Ok x) ≡ Ok y)) ⊎ (cond b (Err e) (Ok x) ≡ Err e)
by_test true e x = inr refl
by_test false e x = inl (x, refl)

by_first : (place : ℕ) (bytes : List ℕ) → let u = unread bytes place in ((x : List ℕ × Unread) × (text_at u ≡ Ok x)) ⊎ (text_at u ≡ Err (fault_at Short u))
unfolding text_at
by_first place [] = inr refl
by_first place (n ∷ behind) = by_test (ltb (length behind) n) (fault_at Short (unread (n ∷ behind) place)) (take n behind, skip n (unread behind (place + 1)))

-- where no text stands, reading one is Short
pub text_at_cut : (u : Unread) → AreBytes u.bytes → ((text rest : List ℕ) → IsShortText text → u.bytes ≡ text_bytes text ++ rest → ⊥) → text_at u ≡ Err (fault_at Short u)
text_at_cut u bytes none =
    elim (by_first u.place u.bytes) [
      | inl found ↦ let t = text_field.takes u found.0.1 found.0.0 bytes found.1 in absurd (none found.0.0 found.0.1.bytes t.1 t.0.bytes)
      | inr e ↦ e
    ]

pub text_passes : (before : Unread) (bytes text rest : List ℕ) (place : ℕ) → unread bytes place ≡ before → bytes ≡ text_bytes text ++ rest → Passes before (unread rest (place + (1 + length text))) (text_bytes text)
text_passes before bytes text rest place e f =
    let bytes-are : bytes ≡ before.bytes = ap (λ (u : Unread). u.bytes) e in
    let place-is : place ≡ before.place = ap (λ (u : Unread). u.place) e in
    record { bytes = sym bytes-are ∙ f; place = omega (arith, place-is, length-text_bytes text) }
