-- A field that is read is the field that was written, and what was written is read again, whatever stands behind it.
use Rattle.std.proofs.Common.{◌≡◌, ℕ, ℤ, pos, negsuc, ◌+◌, ◌^◌, ◌<◌, ◌≤◌, Bool, true, false, cond, ltb, List, [], ◌∷◌, ◌++◌, length, get_or, take, drop, Result, Ok, Err, refl, sym, ap, subst, ◌∙◌, append_assoc, arith, inl, inr}
use Rattle.std.specs.Prelude.{IfOk, IsOkAnd}
use Rattle.std.specs.Int.{w16, w32, w64, cast_signed, cast_unsigned, from_be_bytes, to_be_bytes}
use Rattle.std.specs.Int.RustNames.{FitsSigned}
use Rattle.std.proofs.lemmas.Bool.{cases_lt, ltb-false, le-ltb}
use Rattle.std.proofs.lemmas.List.{take_at, drop_at, take-append-drop, length-append, length-take, get_or-drop, get_or-take, get_or_past}
use Rattle.std.proofs.lemmas.Nat.{be_bytes_2, be_bytes_4, be_bytes_8, from_be_bytes-to_be_bytes_2, from_be_bytes-to_be_bytes_4, from_be_bytes-to_be_bytes_8}
use Rattle.std.proofs.lemmas.Int.{to_z-of_z, of_z-to_z}
use borrow.Author.Gap.{read_sfits}
use Rattle.acc_wire.specs.declared.error.WireError.{WireError}
use Rattle.acc_wire.specs.declared.error.WireKind.TheVariants.{Short}
use Rattle.acc_wire.specs.Spelling.{u8_bytes, u16_bytes, u32_bytes, u64_bytes, i64_bytes, text_bytes, IsShortText}
use Rattle.acc_wire.specs.Reading.{Unread, Passes, AreBytes, Read, Takes, TakesBy, ◌>>=◌, skip, fault_at, field_at, first_at, u8_at, u16_at, u32_at, u64_at, i64_at, text_at}

-- ---- bytes

pub AreBytes-drop : (n : ℕ) (bytes : List ℕ) → AreBytes bytes → AreBytes (drop n bytes)
AreBytes-drop n bytes h i = rw get_or-drop (h (n + i))

pub AreBytes-take : (n : ℕ) (bytes : List ℕ) → AreBytes bytes → AreBytes (take n bytes)
AreBytes-take n bytes h i =
    elim (cases_lt i n) [
      | inl lt ↦ rw (get_or-take n bytes i 0 lt) (h i)
      | inr le ↦ rw (get_or_past (take n bytes) i 0 (omega (arith, length-take n bytes))) (omega arith)
    ]

pub AreBytes-append_left : (xs ys : List ℕ) → AreBytes (xs ++ ys) → AreBytes xs
AreBytes-append_left xs ys h = rw (take_at xs ys (length xs) refl) at (AreBytes-take (length xs) (xs ++ ys) h)

pub AreBytes-append_right : (xs ys : List ℕ) → AreBytes (xs ++ ys) → AreBytes ys
AreBytes-append_right xs ys h = rw (drop_at xs ys (length xs) refl) at (AreBytes-drop (length xs) (xs ++ ys) h)

-- ---- steps of reading

-- the value of a step that did not fail
pub bind_ok : {A B : Type 0} (r : Result A WireError) (f : A → Result B WireError) (y : B) → (r >>= f) ≡ Ok y → (x : A) × (r ≡ Ok x) × (f x ≡ Ok y)
bind_ok (Ok x) f y e = (x, refl, e)
bind_ok (Err d) f y e = absurd cc

-- a test that did not fail
pub guard_ok : {A : Type 0} (b : Bool) (d : WireError) (x y : A) → cond b (Err d) (Ok x) ≡ Ok y → (b ≡ false) × (x ≡ y)
guard_ok true d x y e = absurd cc
guard_ok false d x y e = (refl, cc)

abbrev done : {A : Type 0} → A → Result A WireError
done x = Ok x

pub ok_is : {A : Type 0} (x y : A) → done x ≡ done y → x ≡ y
ok_is x y e = cc

abbrev pub unread : List ℕ → ℕ → Unread
unread bytes place = record { bytes = bytes; place = place }

pub same_unread : (u v : Unread) → u.bytes ≡ v.bytes → u.place ≡ v.place → u ≡ v
same_unread u v e f = ap (λ (bytes : List ℕ). unread bytes u.place) e ∙ ap (λ (place : ℕ). unread v.bytes place) f

pub Passes-then : (a b c : Unread) (x y : List ℕ) → Passes a b x → Passes b c y → Passes a c (x ++ y)
Passes-then a b c x y p q = record {
  bytes = p.bytes ∙ ap (λ (t : List ℕ). x ++ t) q.bytes ∙ sym (append_assoc x y c.bytes);
  place = omega (arith, p.place, q.place, length-append x y);
}

pub skip_passes : (n : ℕ) (u : Unread) → n ≤ length u.bytes → Passes u (skip n u) (take n u.bytes)
skip_passes n u le = record { bytes = sym (take-append-drop n u.bytes); place = omega (arith, length-take n u.bytes) }

-- what is left behind a field is bytes
pub AreBytes-passes : (before after : Unread) (spelling : List ℕ) → AreBytes before.bytes → Passes before after spelling → AreBytes after.bytes
AreBytes-passes before after spelling h p = AreBytes-append_right spelling after.bytes (rw p.bytes at h)

-- ---- a kind of field

-- `at` reads the spelling of each x that fits, and nothing else
pub record IsField {A : Type 0} (Fits : A → Type 0) (spelling : A → List ℕ) (at : Unread → Read A) : Type 0 where
  pub takes : (before after : Unread) (x : A) → AreBytes before.bytes → at before ≡ Ok (x, after) → Passes before after (spelling x) × Fits x
  pub again : (before after : Unread) (x : A) → Fits x → Passes before after (spelling x) → at before ≡ Ok (x, after)

-- ---- fields of a fixed number of bytes

record IsWide {A : Type 0} (Fits : A → Type 0) (n : ℕ) (spelling : A → List ℕ) (from : List ℕ → A) : Type 0 where
  len : (x : A) → length (spelling x) ≡ n
  back : (bytes : List ℕ) → length bytes ≡ n → AreBytes bytes → spelling (from bytes) ≡ bytes
  forth : (x : A) → Fits x → from (spelling x) ≡ x
  fits : (bytes : List ℕ) → AreBytes bytes → Fits (from bytes)

wide_takes : {A : Type 0} {Fits : A → Type 0} {n : ℕ} {spelling : A → List ℕ} {from : List ℕ → A} (wide : IsWide Fits n spelling from) (before after : Unread) (x : A) → AreBytes before.bytes → field_at n from before ≡ Ok (x, after) → Passes before after (spelling x) × Fits x
wide_takes {A} {Fits} {n} {spelling} {from} wide before after x bytes e =
    let g = guard_ok (ltb (length before.bytes) n) (fault_at Short before) (from (take n before.bytes), skip n before) (x, after) e in
    let long : n ≤ length before.bytes = ltb-false _ _ g.0 in
    let x-is : from (take n before.bytes) ≡ x = ap (λ (p : A × Unread). p.0) g.1 in
    let after-is : skip n before ≡ after = ap (λ (p : A × Unread). p.1) g.1 in
    let front : spelling x ≡ take n before.bytes = rw (← x-is) (wide.back (take n before.bytes) (omega (arith, length-take n before.bytes)) (AreBytes-take n before.bytes bytes)) in
    let passes : Passes before (skip n before) (spelling x) = record {
      bytes = rw front (sym (take-append-drop n before.bytes));
      place = ap (λ (k : ℕ). before.place + k) (sym (wide.len x));
    } in
    (subst (λ (u : Unread). Passes before u (spelling x)) after-is passes, rw (← x-is) (wide.fits (take n before.bytes) (AreBytes-take n before.bytes bytes)))

wide_again : {A : Type 0} {Fits : A → Type 0} {n : ℕ} {spelling : A → List ℕ} {from : List ℕ → A} (wide : IsWide Fits n spelling from) (before after : Unread) (x : A) → Fits x → Passes before after (spelling x) → field_at n from before ≡ Ok (x, after)
wide_again {A} {Fits} {n} {spelling} {from} wide before after x fits p =
    let len = wide.len x in
    let long : ltb (length before.bytes) n ≡ false = le-ltb _ _ (omega (arith, ap length p.bytes, length-append (spelling x) after.bytes)) in
    let front : take n before.bytes ≡ spelling x = rw p.bytes (take_at (spelling x) after.bytes n len) in
    let rest : drop n before.bytes ≡ after.bytes = rw p.bytes (drop_at (spelling x) after.bytes n len) in
    let left : skip n before ≡ after = same_unread (skip n before) after rest (omega (arith, p.place)) in
    let x-is : from (take n before.bytes) ≡ x = ap from front ∙ wide.forth x fits in
    rw (long, x-is, left) refl

wide_field : {A : Type 0} {Fits : A → Type 0} {n : ℕ} {spelling : A → List ℕ} {from : List ℕ → A} → IsWide Fits n spelling from → IsField Fits spelling (field_at n from)
wide_field wide = record { takes = wide_takes wide; again = wide_again wide }

-- ---- one byte

from_first : (place : ℕ) (bytes : List ℕ) (x : ℕ) (after : Unread) → first_at place bytes ≡ Ok (x, after) → (bytes ≡ x ∷ after.bytes) × (after.place ≡ place + 1)
from_first place [] x after e = absurd cc
from_first place (b ∷ bytes) x after e =
    let d = ok_is (b, unread bytes (place + 1)) (x, after) e in
    let x-is : b ≡ x = ap (λ (p : ℕ × Unread). p.0) d in
    let bytes-is : bytes ≡ after.bytes = ap (λ (p : ℕ × Unread). p.1.bytes) d in
    (cc, ap (λ (p : ℕ × Unread). p.1.place) (sym d))

-- a list is empty or has a first number
pub head_of : (bytes rest : List ℕ) (b : ℕ) → bytes ≡ b ∷ rest → AreBytes bytes → b < 256
head_of bytes rest b e h = let f : get_or bytes 0 0 ≡ b = ap (λ (l : List ℕ). get_or l 0 0) e in omega (arith, h 0, f)

u8_takes : (before after : Unread) (x : ℕ) → AreBytes before.bytes → u8_at before ≡ Ok (x, after) → Passes before after (u8_bytes x) × (x < 2 ^ 8)
u8_takes before after x bytes e =
    let p = from_first before.place before.bytes x after e in
    (record { bytes = p.0; place = p.1 }, head_of before.bytes after.bytes x p.0 bytes)

u8_again : (before after : Unread) (x : ℕ) → x < 2 ^ 8 → Passes before after (u8_bytes x) → u8_at before ≡ Ok (x, after)
u8_again before after x lt p =
    ap (first_at before.place) p.bytes ∙ ap (λ (u : Unread). Ok (x, u)) (same_unread (unread after.bytes (before.place + 1)) after refl (sym p.place))

pub u8_field : IsField (λ n. n < 2 ^ 8) u8_bytes u8_at
u8_field = record { takes = u8_takes; again = u8_again }

pub u16_field : IsField (λ n. n < 2 ^ 16) u16_bytes u16_at
unfolding u16_bytes u16_at
u16_field = let wide : IsWide (λ n. n < 2 ^ 16) 2 (λ n. to_be_bytes w16 n) (from_be_bytes w16) = record {
  len = λ n. refl;
  back = λ bytes len fits. be_bytes_2 bytes _ len fits refl;
  forth = λ n lt. from_be_bytes-to_be_bytes_2 n lt;
  fits = λ bytes fits. omega (arith, fits 0, fits 1);
} in wide_field wide

pub u32_field : IsField (λ n. n < 2 ^ 32) u32_bytes u32_at
unfolding u32_bytes u32_at
u32_field = let wide : IsWide (λ n. n < 2 ^ 32) 4 (λ n. to_be_bytes w32 n) (from_be_bytes w32) = record {
  len = λ n. refl;
  back = λ bytes len fits. be_bytes_4 bytes _ len fits refl;
  forth = λ n lt. from_be_bytes-to_be_bytes_4 n lt;
  fits = λ bytes fits. omega (arith, fits 0, fits 1, fits 2, fits 3);
} in wide_field wide

u64_fits : (bytes : List ℕ) → AreBytes bytes → from_be_bytes w64 bytes < 2 ^ 64
u64_fits bytes fits = omega (arith, fits 0, fits 1, fits 2, fits 3, fits 4, fits 5, fits 6, fits 7)

pub u64_field : IsField (λ n. n < 2 ^ 64) u64_bytes u64_at
unfolding u64_bytes u64_at
u64_field = let wide : IsWide (λ n. n < 2 ^ 64) 8 (λ n. to_be_bytes w64 n) (from_be_bytes w64) = record {
  len = λ n. refl;
  back = λ bytes len fits. be_bytes_8 bytes _ len fits refl;
  forth = λ n lt. from_be_bytes-to_be_bytes_8 n lt;
  fits = u64_fits;
} in wide_field wide

unsigned_fits : (z : ℤ) → FitsSigned w64 z → cast_unsigned w64 z < 2 ^ 64
unsigned_fits (pos n) h = omega (arith, h.sfits)
unsigned_fits (negsuc n) h = omega arith

-- a kind of field whose values are those of another one, seen by f and back by g
pub record IsView {A B : Type 0} (FitsA : A → Type 0) (FitsB : B → Type 0) (f : A → B) (g : B → A) : Type 0 where
  pub fits : (x : A) → FitsA x → FitsB (f x)
  pub back_fits : (y : B) → FitsB y → FitsA (g y)
  pub back : (x : A) → FitsA x → g (f x) ≡ x
  pub forth : (y : B) → FitsB y → f (g y) ≡ y

pub view_field : {A B : Type 0} {FitsA : A → Type 0} {FitsB : B → Type 0} {spelling : A → List ℕ} {at : Unread → Read A} {f : A → B} {g : B → A} → IsField FitsA spelling at → IsView FitsA FitsB f g → IsField FitsB (λ y. spelling (g y)) (λ u. at u >>= λ x. Ok (f x.0, x.1))
view_field {A} {B} {FitsA} {FitsB} {spelling} {at} {f} {g} field view = record {
  takes = λ before after y bytes e.
      let b = bind_ok (at before) (λ x. Ok (f x.0, x.1)) (y, after) e in
      let d = ok_is (f b.0.0, b.0.1) (y, after) b.2 in
      let t = field.takes before b.0.1 b.0.0 bytes b.1 in
      let y-is : f b.0.0 ≡ y = ap (λ (p : B × Unread). p.0) d in
      let after-is : b.0.1 ≡ after = ap (λ (p : B × Unread). p.1) d in
      let x-is : b.0.0 ≡ g y = sym (view.back b.0.0 t.1) ∙ ap g y-is in
      let passes : Passes before b.0.1 (spelling (g y)) = subst (λ (x : A). Passes before b.0.1 (spelling x)) x-is t.0 in
      (subst (λ (u : Unread). Passes before u (spelling (g y))) after-is passes, subst FitsB y-is (view.fits b.0.0 t.1));
  again = λ before after y fits p.
      let e = field.again before after (g y) (view.back_fits y fits) p in
      rw (e, view.forth y fits) refl;
}

pub i64_field : IsField (FitsSigned w64) i64_bytes i64_at
unfolding i64_bytes i64_at
i64_field = let view : IsView (λ n. n < 2 ^ 64) (FitsSigned w64) (cast_signed w64) (cast_unsigned w64) = record {
  fits = λ n lt. read_sfits w64 n;
  back_fits = unsigned_fits;
  back = λ n lt. of_z-to_z w64 n lt;
  forth = λ z fits. to_z-of_z w64 z fits;
} in view_field u64_field view

-- ---- a text

text_takes : (before after : Unread) (x : List ℕ) → AreBytes before.bytes → text_at before ≡ Ok (x, after) → Passes before after (text_bytes x) × IsShortText x
unfolding text_at text_bytes
text_takes before after x bytes e =
    let b = bind_ok (u8_at before) (λ n. cond (ltb (length n.1.bytes) n.0) (Err (fault_at Short before)) (Ok (take n.0 n.1.bytes, skip n.0 n.1))) (x, after) e in
    let n : ℕ = b.0.0 in
    let u : Unread = b.0.1 in
    let first = u8_takes before u n bytes b.1 in
    let g = guard_ok (ltb (length u.bytes) n) (fault_at Short before) (take n u.bytes, skip n u) (x, after) b.2 in
    let long : n ≤ length u.bytes = ltb-false _ _ g.0 in
    let x-is : take n u.bytes ≡ x = ap (λ (p : List ℕ × Unread). p.0) g.1 in
    let after-is : skip n u ≡ after = ap (λ (p : List ℕ × Unread). p.1) g.1 in
    let len : length x ≡ n = omega (arith, ap length x-is, length-take n u.bytes) in
    let second : Passes u (skip n u) x = subst (λ (l : List ℕ). Passes u (skip n u) l) x-is (skip_passes n u long) in
    let both : Passes before (skip n u) (u8_bytes n ++ x) = Passes-then before u (skip n u) (u8_bytes n) x first.0 second in
    let whole : Passes before after (u8_bytes n ++ x) = subst (λ (v : Unread). Passes before v (u8_bytes n ++ x)) after-is both in
    (subst (λ (k : ℕ). Passes before after (u8_bytes k ++ x)) (sym len) whole, omega (arith, first.1))

text_again : (before after : Unread) (x : List ℕ) → IsShortText x → Passes before after (text_bytes x) → text_at before ≡ Ok (x, after)
unfolding text_at text_bytes
text_again before after x short p =
    let u : Unread = unread (x ++ after.bytes) (before.place + 1) in
    let first : u8_at before ≡ Ok (length x, u) = u8_again before u (length x) short (record { bytes = p.bytes; place = refl }) in
    let long : ltb (length (x ++ after.bytes)) (length x) ≡ false = le-ltb _ _ (omega (arith, length-append x after.bytes)) in
    let left : skip (length x) u ≡ after = same_unread (skip (length x) u) after (drop_at x after.bytes (length x) refl) (omega (arith, p.place)) in
    rw (first, long, take_at x after.bytes (length x) refl, left) refl

pub text_field : IsField IsShortText text_bytes text_at
text_field = record { takes = text_takes; again = text_again }

-- ---- what a kind of field gives

-- no spelling begins another one, and what stands behind is the same
pub field_once : {A : Type 0} {Fits : A → Type 0} {spelling : A → List ℕ} {at : Unread → Read A} → IsField Fits spelling at → (x y : A) (a b : List ℕ) → Fits x → Fits y → spelling x ++ a ≡ spelling y ++ b → (x ≡ y) × (a ≡ b)
field_once {A} {Fits} {spelling} {at} field x y a b fx fy e =
    let before : Unread = unread (spelling x ++ a) 0 in
    let first = field.again before (unread a (length (spelling x))) x fx (record { bytes = refl; place = omega arith }) in
    let second = field.again before (unread b (length (spelling y))) y fy (record { bytes = e; place = omega arith }) in
    let d = ok_is (x, unread a (length (spelling x))) (y, unread b (length (spelling y))) (sym first ∙ second) in
    (ap (λ (p : A × Unread). p.0) d, ap (λ (p : A × Unread). p.1.bytes) d)

-- a call that answers what reading gives went over the spelling of what it answered
pub field_found : {A : Type 0} {Fits : A → Type 0} {spelling : A → List ℕ} {at : Unread → Read A} → IsField Fits spelling at → (r : Result A WireError) (before after : Unread) → AreBytes before.bytes → Takes r before after (at before) → IfOk r (λ x. Passes before after (spelling x))
field_found field (Ok x) before after bytes e = (field.takes before after x bytes e).0
field_found field (Err d) before after bytes e = tt

-- it answers what is spelled there
pub field_only_by : {X A : Type 0} {Fits : A → Type 0} {spelling : A → List ℕ} {at : Unread → Read A} → IsField Fits spelling at → (view : X → A) (r : Result X WireError) (before after : Unread) → TakesBy view r before after (at before) → (x : A) (rest : Unread) → Fits x → Passes before rest (spelling x) → IsOkAnd r (λ y. view y ≡ x) × (after ≡ rest)
field_only_by {X} {A} field view (Ok y) before after e x rest fits p =
    let d = ok_is (view y, after) (x, rest) (sym e ∙ field.again before rest x fits p) in
    (ap (λ (q : A × Unread). q.0) d, ap (λ (q : A × Unread). q.1) d)
field_only_by field view (Err d) before after e x rest fits p =
    let apart = sym e.0 ∙ field.again before rest x fits p in absurd cc

ok_and : {A : Type 0} (r : Result A WireError) (x : A) → IsOkAnd r (λ y. y ≡ x) → r ≡ Ok x
ok_and (Ok y) x e = ap (λ (z : _). Ok z) e
ok_and (Err d) x e = absurd e

pub field_only : {A : Type 0} {Fits : A → Type 0} {spelling : A → List ℕ} {at : Unread → Read A} → IsField Fits spelling at → (r : Result A WireError) (before after : Unread) → Takes r before after (at before) → (x : A) (rest : Unread) → Fits x → Passes before rest (spelling x) → (r ≡ Ok x) × (after ≡ rest)
field_only field r before after e x rest fits p =
    let o = field_only_by field (λ y. y) r before after e x rest fits p in (ok_and r x o.0, o.1)

-- ---- lengths

pub length-u16_bytes : (n : ℕ) → length (u16_bytes n) ≡ 2
unfolding u16_bytes
length-u16_bytes n = refl

pub length-u32_bytes : (n : ℕ) → length (u32_bytes n) ≡ 4
unfolding u32_bytes
length-u32_bytes n = refl

pub length-u64_bytes : (n : ℕ) → length (u64_bytes n) ≡ 8
unfolding u64_bytes
length-u64_bytes n = refl

pub length-i64_bytes : (z : ℤ) → length (i64_bytes z) ≡ 8
unfolding i64_bytes u64_bytes
length-i64_bytes z = refl

pub length-text_bytes : (text : List ℕ) → length (text_bytes text) ≡ length text + 1
unfolding text_bytes
length-text_bytes text = omega arith
