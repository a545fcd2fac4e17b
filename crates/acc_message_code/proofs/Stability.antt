-- What a reader answers on some bytes, other than that they are too short, it answers where more stands after them too.
use Rattle.std.proofs.Common.{◌≡◌, ◌⊎◌, inl, inr, ℕ, zero, suc, ◌+◌, ◌≤◌, Bool, true, false, cond, ltb, List, [], ◌∷◌, ◌++◌, length, take, Ok, Err, refl, ap, subst, arith, length-append}
use Rattle.std.specs.Int.{w16, w32, w64, cast_signed, from_be_bytes}
use Rattle.std.proofs.lemmas.Bool.{cases_lt, lt-ltb, le-ltb}
use Rattle.std.proofs.lemmas.List.{take-append-le, drop-append-le, length-drop}
use Rattle.acc_wire.specs.declared.error.WireError.{WireError}
use Rattle.acc_wire.specs.declared.error.WireKind.TheVariants.{Short, Range}
use Rattle.acc_wire.specs.Reading.{Unread, Read, ◌>>=◌, skip, fault_at, field_at, first_at, u8_at, u16_at, u32_at, u64_at, i64_at, text_at}
use Rattle.acc_wire.proofs.Fields.{unread}
use Rattle.acc_code.specs.Reading.{passing, between_at, each_at, listed_at}

-- the place after all that is left
abbrev pub end_of : Unread → ℕ
end_of u = u.place + length u.bytes

-- more stands after what is left
abbrev pub with_more : Unread → List ℕ → Unread
with_more u more = unread (u.bytes ++ more) u.place

-- the first answer comes from bytes that end at this place, and the second where more stands after them
abbrev pub Agrees : {A : Type 0} → List ℕ → ℕ → Read A → Read A → Type 0
Agrees more end (Ok x) longer = (longer ≡ Ok (x.0, with_more x.1 more)) × (end_of x.1 ≡ end)
Agrees more end (Err e) longer = (e.place ≤ end) × ((e.kind ≡ Short) ⊎ (longer ≡ Err e))

pub record IsStable {A : Type 0} (at : Unread → Read A) : Type 0 where
  pub agrees : (more : List ℕ) (u : Unread) → Agrees more (end_of u) (at u) (at (with_more u more))

-- ---- steps of reading

pub then_agrees : {A B : Type 0} (more : List ℕ) (end : ℕ) (r s : Read A) (f : A × Unread → Read B) → Agrees more end r s → ((x : A × Unread) → end_of x.1 ≡ end → Agrees more end (f x) (f (x.0, with_more x.1 more))) → Agrees more end (r >>= f) (s >>= f)
then_agrees more end (Ok x) s f h goes_on = rw h.0 (goes_on x h.1)
then_agrees more end (Err e) s f h goes_on = (
  h.0,
  elim h.1 [
    | inl short ↦ inl short
    | inr same ↦ inr (ap (λ r. r >>= f) same)
  ],
)

module _ {A : Type 0} where
  -- a reader after a stable one, each for what was read before
  pub stable_then : {B : Type 0} {at : Unread → Read A} {k : A → Unread → Read B} → IsStable at → ((x : A) → IsStable (k x)) → IsStable (λ u. at u >>= λ x. k x.0 x.1)
  stable_then {B} {at} {k} first next = record {
    agrees = λ more u. then_agrees more (end_of u) (at u) (at (with_more u more)) (λ x. k x.0 x.1) (first.agrees more u) (λ x e.
        subst (λ (end : ℕ). Agrees more end (k x.0 x.1) (k x.0 (with_more x.1 more))) e ((next x.0).agrees more x.1));
  }

  pub stable_done : (x : A) → IsStable (λ u. Ok (x, u))
  stable_done x = record { agrees = λ more u. (refl, refl) }

  pub stable_either : {a c : Unread → Read A} (b : Bool) → IsStable a → IsStable c → IsStable (λ u. cond b (a u) (c u))
  stable_either true left right = left
  stable_either false left right = right

  tested_agrees : (more : List ℕ) (end : ℕ) (b : Bool) (e : WireError) (x : A × Unread) → e.place ≤ end → end_of x.1 ≡ end → Agrees more end (cond b (Ok x) (Err e)) (cond b (Ok (x.0, with_more x.1 more)) (Err e))
  tested_agrees more end true e x within h = (refl, h)
  tested_agrees more end false e x within h = (within, inr refl)

  pub stable_passing : {at : Unread → Read A} (test : A → Bool) → IsStable at → IsStable (passing test at)
  stable_passing {at} test field = record {
    agrees = λ more u. then_agrees more (end_of u) (at u) (at (with_more u more)) (λ x. cond (test x.0) (Ok x) (Err (fault_at Range u))) (field.agrees more u) (λ x e.
        tested_agrees more (end_of u) (test x.0) (fault_at Range u) x (omega arith) e);
  }

  -- n bytes, of a field that begins at this place
  pub bytes_agree : (more : List ℕ) (end n place : ℕ) (f : List ℕ → A) (u : Unread) → place ≤ end → end_of u ≡ end
      → Agrees more end (cond (ltb (length u.bytes) n) (Err (record { kind = Short; place = place })) (Ok (f (take n u.bytes), skip n u))) (cond (ltb (length (u.bytes ++ more)) n) (Err (record { kind = Short; place = place })) (Ok (f (take n (u.bytes ++ more)), skip n (with_more u more))))
  bytes_agree more end n place f u within e =
      elim (cases_lt (length u.bytes) n) [
        | inl lt ↦ rw (lt-ltb (length u.bytes) n lt) (within, inl refl)
        | inr le ↦
            rw (
              le-ltb (length u.bytes) n le,
              le-ltb (length (u.bytes ++ more)) n (omega (arith, length-append u.bytes more)),
              take-append-le n u.bytes more le,
              drop-append-le n u.bytes more le,
            ) (refl, omega (arith, e, length-drop n u.bytes))
      ]

  pub stable_bytes : (n : ℕ) (f : List ℕ → A) → IsStable (field_at n f)
  stable_bytes n f = record { agrees = λ more u. bytes_agree more (end_of u) n u.place f u (omega arith) refl }

-- ---- numbers and texts

first_agrees : (more : List ℕ) (place : ℕ) (bytes : List ℕ) → Agrees more (place + length bytes) (first_at place bytes) (first_at place (bytes ++ more))
first_agrees more place [] = (omega arith, inl refl)
first_agrees more place (b ∷ bytes) = (refl, omega arith)

pub u8_stable : IsStable u8_at
u8_stable = record { agrees = λ more u. first_agrees more u.place u.bytes }

pub u16_stable : IsStable u16_at
unfolding u16_at
u16_stable = stable_bytes 2 (from_be_bytes w16)

pub u32_stable : IsStable u32_at
unfolding u32_at
u32_stable = stable_bytes 4 (from_be_bytes w32)

pub u64_stable : IsStable u64_at
unfolding u64_at
u64_stable = stable_bytes 8 (from_be_bytes w64)

pub i64_stable : IsStable i64_at
unfolding i64_at
i64_stable = stable_then u64_stable (λ n. stable_done (cast_signed w64 n))

pub text_stable : IsStable text_at
unfolding text_at
text_stable = record {
  agrees = λ more u. then_agrees more (end_of u) (u8_at u) (u8_at (with_more u more)) (λ n. cond (ltb (length n.1.bytes) n.0) (Err (fault_at Short u)) (Ok (take n.0 n.1.bytes, skip n.0 n.1))) (u8_stable.agrees more u) (λ n e.
      bytes_agree more (end_of u) n.0 u.place (λ bytes. bytes) n.1 (omega arith) e);
}

pub between_stable : (least most : ℕ) → IsStable (between_at least most)
unfolding between_at
between_stable least most = stable_passing _ u8_stable

-- ---- lists

module _ {A : Type 0} {at : List A → Unread → Read A} (field : (front : List A) → IsStable (at front)) where
  pub each_stable : (n : ℕ) (front : List A) → IsStable (each_at at n front)
  unfolding each_at
  each_stable zero front = stable_done front
  each_stable (suc n) front = stable_then (field front) (λ x. each_stable n (front ++ x ∷ []))

  pub listed_stable : (least most : ℕ) → IsStable (listed_at least most at)
  unfolding listed_at
  listed_stable least most = stable_then (between_stable least most) (λ n. each_stable n [])
