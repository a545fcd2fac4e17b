-- For formats of several fields: one step of a chain, and a field that stands a number of times.
use Rattle.std.proofs.Common.{◌≡◌, ℕ, zero, suc, ◌+◌, ◌-◌, ◌<◌, ◌≤◌, append_assoc, List, [], ◌∷◌, ◌++◌, length, Result, Ok, Err, refl, sym, ap, subst, ◌∙◌, arith, length-append}
use Rattle.std.specs.List.{flat_map, AllByRecursion}
use Rattle.std.proofs.lemmas.List.{append-nil}
use Rattle.std.proofs.lemmas.List.Concat.{flat_map-cons}
use Rattle.acc_wire.specs.declared.error.WireError.{WireError}
use Rattle.acc_wire.specs.Reading.{Unread, Passes, AreBytes, Read, ◌>>=◌, times_at}
use Rattle.acc_wire.proofs.Fields.{unread, ok_is, bind_ok, same_unread, Passes-then, AreBytes-passes, IsField}

-- the value of the first field of a chain that did not fail, and where the chain goes on
pub record Stepped {A B : Type 0} (Fits : A → Type 0) (spelling : A → List ℕ) (f : A × Unread → Result B WireError) (before : Unread) (y : B) : Type 0 where
  pub value : A
  pub after : Unread
  pub passes : Passes before after (spelling value)
  pub fits : Fits value
  pub bytes : AreBytes after.bytes
  pub goes_on : f (value, after) ≡ Ok y

pub step_takes : {A B : Type 0} {Fits : A → Type 0} {spelling : A → List ℕ} {at : Unread → Read A} → IsField Fits spelling at → (f : A × Unread → Result B WireError) (before : Unread) (y : B) → AreBytes before.bytes → (at before >>= f) ≡ Ok y → Stepped Fits spelling f before y
step_takes {at} field f before y bytes e =
    let b = bind_ok (at before) f y e in
    let t = field.takes before b.0.1 b.0.0 bytes b.1 in
    record { value = b.0.0; after = b.0.1; passes = t.0; fits = t.1; bytes = AreBytes-passes before b.0.1 _ bytes t.0; goes_on = b.2 }

pub step_again : {A B : Type 0} {Fits : A → Type 0} {spelling : A → List ℕ} {at : Unread → Read A} → IsField Fits spelling at → (f : A × Unread → Result B WireError) (before after : Unread) (x : A) → Fits x → Passes before after (spelling x) → (at before >>= f) ≡ f (x, after)
step_again field f before after x fits p = ap (λ r. r >>= f) (field.again before after x fits p)

-- the place between two spellings
pub Passes-split : (a c : Unread) (x y : List ℕ) → Passes a c (x ++ y) → let b = unread (y ++ c.bytes) (a.place + length x) in Passes a b x × Passes b c y
Passes-split a c x y p = (
  record { bytes = p.bytes ∙ append_assoc x y c.bytes; place = refl },
  record { bytes = refl; place = omega (arith, p.place, length-append x y) },
)

-- ---- a field that stands n times

pub times_takes : {A : Type 0} {Fits : A → Type 0} {spelling : A → List ℕ} {at : Unread → Read A} → IsField Fits spelling at → (n : ℕ) (before after : Unread) (xs : List A) → AreBytes before.bytes → times_at at n before ≡ Ok (xs, after) → Passes before after (flat_map spelling xs) × (length xs ≡ n) × AllByRecursion Fits xs
unfolding times_at
times_takes {A} {Fits} {spelling} {at} field zero before after xs bytes e =
    subst (λ (x : List A × Unread). Passes before x.1 (flat_map spelling x.0) × (length x.0 ≡ 0) × AllByRecursion Fits x.0) (ok_is ([], before) (xs, after) e) (record { bytes = refl; place = omega arith }, refl, tt)
times_takes {A} {Fits} {spelling} {at} field (suc n) before after xs bytes e =
    let first = step_takes field (λ x. times_at at n x.1 >>= λ others. Ok (x.0 ∷ others.0, others.1)) before (xs, after) bytes e in
    let b = bind_ok (times_at at n first.after) (λ others. Ok (first.value ∷ others.0, others.1)) (xs, after) first.goes_on in
    let others = times_takes field n first.after b.0.1 b.0.0 first.bytes b.1 in
    let both = Passes-then before first.after b.0.1 (spelling first.value) (flat_map spelling b.0.0) first.passes others.0 in
    subst (λ (x : List A × Unread). Passes before x.1 (flat_map spelling x.0) × (length x.0 ≡ suc n) × AllByRecursion Fits x.0) (ok_is (first.value ∷ b.0.0, b.0.1) (xs, after) b.2)
    (rw flat_map-cons both, ap suc others.1, (first.fits, others.2))

pub times_again : {A : Type 0} {Fits : A → Type 0} {spelling : A → List ℕ} {at : Unread → Read A} → IsField Fits spelling at → (xs : List A) (before after : Unread) → AllByRecursion Fits xs → Passes before after (flat_map spelling xs) → times_at at (length xs) before ≡ Ok (xs, after)
unfolding times_at
times_again field [] before after fits p = ap (λ (u : Unread). Ok ([], u)) (same_unread before after p.bytes (omega (arith, p.place)))
times_again {A} {Fits} {spelling} {at} field (x ∷ xs) before after fits p =
    let q : Passes before after (spelling x ++ flat_map spelling xs) = rw (flat_map-cons spelling x xs) at p in
    let parts = Passes-split before after (spelling x) (flat_map spelling xs) q in
    let middle = unread (flat_map spelling xs ++ after.bytes) (before.place + length (spelling x)) in
    step_again field (λ y. times_at at (length xs) y.1 >>= λ others. Ok (y.0 ∷ others.0, others.1)) before middle x fits.0 parts.0
    ∙ ap (λ (r : Read (List A)). r >>= λ others. Ok (x ∷ others.0, others.1)) (times_again field xs middle after fits.1 parts.1)

-- what a loop over the count keeps: these were read, and the rest is read on from here
abbrev pub with_front : {A : Type 0} → List A → Read (List A) → Read (List A)
with_front front r = r >>= λ x. Ok (front ++ x.0, x.1)

with_front-step : {A : Type 0} (front : List A) (x : A) (r : Read (List A)) → with_front front (r >>= λ others. Ok (x ∷ others.0, others.1)) ≡ with_front (front ++ x ∷ []) r
with_front-step front x (Ok others) = ap (λ xs. Ok (xs, others.1)) (sym (append_assoc front (x ∷ []) others.0))
with_front-step front x (Err e) = refl

front_of_none : {A : Type 0} (r : Read (List A)) → with_front [] r ≡ r
front_of_none (Ok x) = refl
front_of_none (Err e) = refl

pub times_begins : {A : Type 0} (at : Unread → Read A) (n : ℕ) (u : Unread) → with_front [] (times_at at n u) ≡ times_at at n u
times_begins at n u = front_of_none (times_at at n u)

pub times_goes_on : {A : Type 0} (at : Unread → Read A) (front : List A) (count i : ℕ) (u v : Unread) (x : A) (total : Read (List A)) → i < count → at u ≡ Ok (x, v) → with_front front (times_at at (count - i) u) ≡ total → with_front (front ++ x ∷ []) (times_at at (count - (i + 1)) v) ≡ total
unfolding times_at
times_goes_on at front count i u v x total lt h so_far =
    let k : count - i ≡ suc (count - (i + 1)) = omega arith in
    let one : with_front front (times_at at (count - i) u) ≡ with_front (front ++ x ∷ []) (times_at at (count - (i + 1)) v) = rw (k, h) (with_front-step front x (times_at at (count - (i + 1)) v)) in
    sym one ∙ so_far

pub times_fails : {A : Type 0} (at : Unread → Read A) (front : List A) (count i : ℕ) (u : Unread) (e : WireError) (total : Read (List A)) → i < count → at u ≡ Err e → with_front front (times_at at (count - i) u) ≡ total → total ≡ Err e
unfolding times_at
times_fails at front count i u e total lt h so_far =
    let k : count - i ≡ suc (count - (i + 1)) = omega arith in
    let one : with_front front (times_at at (count - i) u) ≡ Err e = rw (k, h) refl in
    sym so_far ∙ one

pub times_ends : {A : Type 0} (at : Unread → Read A) (front : List A) (count i : ℕ) (u : Unread) (total : Read (List A)) → count ≤ i → with_front front (times_at at (count - i) u) ≡ total → total ≡ Ok (front, u)
unfolding times_at
times_ends {A} at front count i u total le so_far =
    let k : count - i ≡ 0 = omega arith in
    let one : with_front front (times_at at (count - i) u) ≡ Ok (front, u) = rw k (ap (λ (xs : List A). Ok (xs, u)) (append-nil front)) in
    sym so_far ∙ one
