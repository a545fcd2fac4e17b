-- Kinds of field that are made of others: a field after another one, one that passes a test, and lists.
use Rattle.std.proofs.Common.{◌≡◌, ℕ, zero, suc, ◌+◌, ◌^◌, ◌<◌, ◌≤◌, Bool, true, false, cond, ◌&&◌, List, [], ◌∷◌, ◌++◌, length, append_assoc, Ok, Err, refl, sym, ap, subst, ◌∙◌, IsTrue, arith}
use Rattle.std.specs.Prelude.{nat_le}
use Rattle.std.specs.Cmp.{first_so, second_so}
use Rattle.std.specs.List.{flat_map}
use Rattle.std.proofs.lemmas.Bool.{leb-true, le-leb}
use Rattle.std.proofs.lemmas.List.{append-nil}
use Rattle.std.proofs.lemmas.List.Concat.{flat_map-cons}
use Rattle.acc_wire.specs.declared.error.WireError.{WireError}
use Rattle.acc_wire.specs.declared.error.WireKind.TheVariants.{Range}
use Rattle.acc_wire.specs.Spelling.{u8_bytes}
use Rattle.acc_wire.specs.Reading.{Unread, Passes, AreBytes, Read, ◌>>=◌, fault_at}
use Rattle.acc_wire.proofs.Fields.{IsField, unread, ok_is, bind_ok, same_unread, Passes-then, u8_field}
use Rattle.acc_value.proofs.Rising.{both}
use Rattle.acc_wire.proofs.Chains.{step_takes, step_again, Passes-split}
use Rattle.acc_code.specs.Spelling.{listed}
use Rattle.acc_code.specs.Reading.{passing, between_at, each_at, listed_at}

-- a field of C is one of A and, after it, what is left of C
pub record IsThen {A C : Type 0} (FitsA : A → Type 0) (a_bytes : A → List ℕ) (FitsK : A → C → Type 0) (k_bytes : A → C → List ℕ) (FitsC : C → Type 0) (c_bytes : C → List ℕ) : Type 0 where
  pub fits : (x : A) (c : C) → FitsA x → FitsK x c → FitsC c
  pub bytes : (x : A) (c : C) → FitsK x c → c_bytes c ≡ a_bytes x ++ k_bytes x c
  pub parts : (c : C) → FitsC c → (x : A) × FitsA x × FitsK x c

module _ {A C : Type 0} {FitsA : A → Type 0} {a_bytes : A → List ℕ} {FitsK : A → C → Type 0} {k_bytes : A → C → List ℕ} {FitsC : C → Type 0} {c_bytes : C → List ℕ} {at : Unread → Read A} {k : A → Unread → Read C} (field : IsField FitsA a_bytes at) (rest : (x : A) → FitsA x → IsField (FitsK x) (k_bytes x) (k x)) (then : IsThen FitsA a_bytes FitsK k_bytes FitsC c_bytes) where
  then_takes : (before after : Unread) (c : C) → AreBytes before.bytes → (at before >>= λ x. k x.0 x.1) ≡ Ok (c, after) → Passes before after (c_bytes c) × FitsC c
  then_takes before after c bytes e =
      let s = step_takes field (λ x. k x.0 x.1) before (c, after) bytes e in
      let t = (rest s.value s.fits).takes s.after after c s.bytes s.goes_on in
      let both = Passes-then before s.after after (a_bytes s.value) (k_bytes s.value c) s.passes t.0 in
      (subst (λ (x : List ℕ). Passes before after x) (sym (then.bytes s.value c t.1)) both, then.fits s.value c s.fits t.1)

  then_again : (before after : Unread) (c : C) → FitsC c → Passes before after (c_bytes c) → (at before >>= λ x. k x.0 x.1) ≡ Ok (c, after)
  then_again before after c fits p =
      let parts = then.parts c fits in
      let q : Passes before after (a_bytes parts.0 ++ k_bytes parts.0 c) = subst (λ (x : List ℕ). Passes before after x) (then.bytes parts.0 c parts.2) p in
      let middle = unread (k_bytes parts.0 c ++ after.bytes) (before.place + length (a_bytes parts.0)) in
      let s = Passes-split before after (a_bytes parts.0) (k_bytes parts.0 c) q in
      step_again field (λ x. k x.0 x.1) before middle parts.0 parts.1 s.0 ∙ (rest parts.0 parts.1).again middle after c parts.2 s.1

  pub then_field : IsField FitsC c_bytes (λ u. at u >>= λ x. k x.0 x.1)
  then_field = record { takes = then_takes; again = then_again }

-- nothing more stands after
pub done_field : {C : Type 0} (made : C) → IsField (λ c. c ≡ made) (λ _. []) (λ u. Ok (made, u))
done_field {C} made = record {
  takes = λ before after c bytes e.
      let d = ok_is (made, before) (c, after) e in
      let passes : Passes before before [] = record { bytes = refl; place = omega arith } in
      (subst (λ (u : Unread). Passes before u []) (ap (λ (p : C × Unread). p.1) d) passes, sym (ap (λ (p : C × Unread). p.0) d));
  again = λ before after c same p.
      ap (λ (u : Unread). Ok (made, u)) (same_unread before after p.bytes (omega (arith, p.place))) ∙ ap (λ (x : C). Ok (x, after)) (sym same);
}

-- the same kind of field, where what fits and the spelling are said otherwise
pub record IsSame {A : Type 0} (Fits : A → Type 0) (bytes : A → List ℕ) (Other : A → Type 0) (other : A → List ℕ) : Type 0 where
  pub to : (x : A) → Fits x → Other x
  pub from : (x : A) → Other x → Fits x
  pub bytes_are : (x : A) → Other x → bytes x ≡ other x

pub same_field : {A : Type 0} {Fits : A → Type 0} {bytes : A → List ℕ} {Other : A → Type 0} {other : A → List ℕ} {at : Unread → Read A} → IsField Fits bytes at → IsSame Fits bytes Other other → IsField Other other at
same_field field same = record {
  takes = λ before after x bytes e.
      let t = field.takes before after x bytes e in
      let fits = same.to x t.1 in
      (subst (λ (s : List ℕ). Passes before after s) (same.bytes_are x fits) t.0, fits);
  again = λ before after x fits p.
      field.again before after x (same.from x fits) (subst (λ (s : List ℕ). Passes before after s) (sym (same.bytes_are x fits)) p);
}

-- a test that was passed
passed : {A : Type 0} (b : Bool) (d : WireError) (x y : A) → cond b (Ok x) (Err d) ≡ Ok y → (b ≡ true) × (x ≡ y)
passed true d x y e = (refl, cc)
passed false d x y e = absurd cc

pub passing_field : {A : Type 0} {Fits : A → Type 0} {bytes : A → List ℕ} {at : Unread → Read A} (test : A → Bool) → IsField Fits bytes at → IsField (λ x. Fits x × IsTrue (test x)) bytes (passing test at)
passing_field {A} {Fits} {bytes} {at} test field = record {
  takes = λ before after x are_bytes e.
      let b = bind_ok (at before) (λ y. cond (test y.0) (Ok y) (Err (fault_at Range before))) (x, after) e in
      let g = passed (test b.0.0) (fault_at Range before) b.0 (x, after) b.2 in
      let t = field.takes before b.0.1 b.0.0 are_bytes b.1 in
      subst (λ (y : A × Unread). Passes before y.1 (bytes y.0) × (Fits y.0 × IsTrue (test y.0))) g.1 (t.0, (t.1, g.0));
  again = λ before after x fits p. rw (field.again before after x fits.0 p, fits.1) refl;
}

-- ---- one byte from least to most

pub between_field : (least most : ℕ) → most < 256 → IsField (λ n. (least ≤ n) × (n ≤ most)) u8_bytes (between_at least most)
unfolding between_at
between_field least most lt =
    let same : IsSame (λ n. (n < 2 ^ 8) × IsTrue (nat_le least n && nat_le n most)) u8_bytes (λ n. (least ≤ n) × (n ≤ most)) u8_bytes = record {
      to = λ n h. (leb-true least n (first_so _ _ h.1), leb-true n most (second_so _ _ h.1));
      from = λ n h. (omega (arith, h.0, h.1), both (nat_le least n) (nat_le n most) (le-leb least n h.0) (le-leb n most h.1));
      bytes_are = λ n h. refl;
    } in same_field (passing_field (λ n. nat_le least n && nat_le n most) u8_field) same

-- ---- lists

-- each fits after those before it
abbrev pub EachFits : {A : Type 0} → (List A → A → Type 0) → List A → List A → Type 0
EachFits Fits front [] = Unit {0}
EachFits Fits front (x ∷ xs) = Fits front x × EachFits Fits (front ++ x ∷ []) xs

module _ {A : Type 0} {Fits : List A → A → Type 0} {bytes : A → List ℕ} {at : List A → Unread → Read A} (field : (front : List A) → IsField (Fits front) bytes (at front)) where
  pub each_takes : (n : ℕ) (front : List A) (before after : Unread) (all : List A) → AreBytes before.bytes → each_at at n front before ≡ Ok (all, after) → (xs : List A) × (all ≡ front ++ xs) × Passes before after (flat_map bytes xs) × (length xs ≡ n) × EachFits Fits front xs
  unfolding each_at
  each_takes zero front before after all are_bytes e =
      let d = ok_is (front, before) (all, after) e in
      let passes : Passes before before [] = record { bytes = refl; place = omega arith } in
      ([], sym (ap (λ (p : List A × Unread). p.0) d) ∙ sym (append-nil front), subst (λ (u : Unread). Passes before u []) (ap (λ (p : List A × Unread). p.1) d) passes, refl, tt)
  each_takes (suc n) front before after all are_bytes e =
      let s = step_takes (field front) (λ x. each_at at n (front ++ x.0 ∷ []) x.1) before (all, after) are_bytes e in
      let t = each_takes n (front ++ s.value ∷ []) s.after after all s.bytes s.goes_on in
      let both_pass = Passes-then before s.after after (bytes s.value) (flat_map bytes t.0) s.passes t.2 in
      (s.value ∷ t.0, t.1 ∙ append_assoc front (s.value ∷ []) t.0, rw flat_map-cons both_pass, ap suc t.3, (s.fits, t.4))

  pub each_again : (xs front : List A) (before after : Unread) → EachFits Fits front xs → Passes before after (flat_map bytes xs) → each_at at (length xs) front before ≡ Ok (front ++ xs, after)
  unfolding each_at
  each_again [] front before after fits p =
      ap (λ (u : Unread). Ok (front, u)) (same_unread before after p.bytes (omega (arith, p.place))) ∙ ap (λ (ys : List A). Ok (ys, after)) (sym (append-nil front))
  each_again (x ∷ xs) front before after fits p =
      let q : Passes before after (bytes x ++ flat_map bytes xs) = rw (flat_map-cons bytes x xs) at p in
      let parts = Passes-split before after (bytes x) (flat_map bytes xs) q in
      let middle = unread (flat_map bytes xs ++ after.bytes) (before.place + length (bytes x)) in
      step_again (field front) (λ y. each_at at (length xs) (front ++ y.0 ∷ []) y.1) before middle x fits.0 parts.0
      ∙ each_again xs (front ++ x ∷ []) middle after fits.1 parts.1
      ∙ ap (λ (ys : List A). Ok (ys, after)) (append_assoc front (x ∷ []) xs)

  pub listed_field : (least most : ℕ) → most < 256 → IsField (λ xs. (least ≤ length xs) × (length xs ≤ most) × EachFits Fits [] xs) (listed bytes) (listed_at least most at)
  unfolding listed listed_at
  listed_field least most lt = record {
    takes = λ before after xs are_bytes e.
        let s = step_takes (between_field least most lt) (λ n. each_at at n.0 [] n.1) before (xs, after) are_bytes e in
        let t = each_takes s.value [] s.after after xs s.bytes s.goes_on in
        let passes : Passes before after (u8_bytes s.value ++ flat_map bytes t.0) = Passes-then before s.after after (u8_bytes s.value) (flat_map bytes t.0) s.passes t.2 in
        let counted : Passes before after (u8_bytes (length t.0) ++ flat_map bytes t.0) = subst (λ (n : ℕ). Passes before after (u8_bytes n ++ flat_map bytes t.0)) (sym t.3) passes in
        subst (λ (ys : List A). Passes before after (u8_bytes (length ys) ++ flat_map bytes ys) × ((least ≤ length ys) × (length ys ≤ most) × EachFits Fits [] ys)) (sym t.1) (counted, (omega (arith, s.fits.0, t.3), omega (arith, s.fits.1, t.3), t.4));
    again = λ before after xs fits p.
        let parts = Passes-split before after (u8_bytes (length xs)) (flat_map bytes xs) p in
        let middle = unread (flat_map bytes xs ++ after.bytes) (before.place + length (u8_bytes (length xs))) in
        step_again (between_field least most lt) (λ n. each_at at n.0 [] n.1) before middle (length xs) (fits.0, fits.1) parts.0
        ∙ each_again xs [] middle after fits.2 parts.1;
  }

-- ---- values that are made of fields

-- a value that is made of one field
pub made_field : {A C : Type 0} {FitsA : A → Type 0} {a_bytes : A → List ℕ} {at : Unread → Read A} (make : A → C) (c_bytes : C → List ℕ) → ((x : A) → FitsA x → c_bytes (make x) ≡ a_bytes x) → IsField FitsA a_bytes at → IsField (λ c. (x : A) × FitsA x × (c ≡ make x)) c_bytes (λ u. at u >>= λ x. Ok (make x.0, x.1))
made_field {A} {C} {FitsA} {a_bytes} make c_bytes spelled field =
    let then : IsThen (λ x. FitsA x) a_bytes (λ x c. FitsA x × (c ≡ make x)) (λ x c. []) (λ c. (x : A) × FitsA x × (c ≡ make x)) c_bytes = record {
      fits = λ x c fits h. (x, fits, h.1);
      bytes = λ x c h. ap c_bytes h.1 ∙ spelled x h.0 ∙ sym (append-nil (a_bytes x));
      parts = λ c h. (h.0, h.1, (h.1, h.2));
    } in
    then_field field (λ x fits. same_field (done_field (make x)) (record { to = λ c e. (fits, e); from = λ c h. h.1; bytes_are = λ c h. refl })) then

-- a field after which a value is made of another one
module _ {A B C : Type 0} {FitsA : A → Type 0} {a_bytes : A → List ℕ} {FitsB : A → B → Type 0} {b_bytes : B → List ℕ} {at : Unread → Read A} {behind : A → Unread → Read B} (make : A → B → C) (c_bytes : C → List ℕ) (spelled : (x : A) (y : B) → FitsA x → FitsB x y → c_bytes (make x y) ≡ a_bytes x ++ b_bytes y) (field : IsField FitsA a_bytes at) (next : (x : A) → FitsA x → IsField (FitsB x) b_bytes (behind x)) where
  abbrev two_at : Unread → Read C
  two_at u = at u >>= λ x. behind x.0 x.1 >>= λ y. Ok (make x.0 y.0, y.1)

  abbrev FitsTwo : C → Type 0
  FitsTwo c = (x : A) × (y : B) × FitsA x × FitsB x y × (c ≡ make x y)

  two_takes : (before after : Unread) (c : C) → AreBytes before.bytes → two_at before ≡ Ok (c, after) → Passes before after (c_bytes c) × FitsTwo c
  two_takes before after c bytes e =
      let s = step_takes field (λ x. behind x.0 x.1 >>= λ y. Ok (make x.0 y.0, y.1)) before (c, after) bytes e in
      let t = step_takes (next s.value s.fits) (λ y. Ok (make s.value y.0, y.1)) s.after (c, after) s.bytes s.goes_on in
      let d = ok_is (make s.value t.value, t.after) (c, after) t.goes_on in
      let both_pass = Passes-then before s.after t.after (a_bytes s.value) (b_bytes t.value) s.passes t.passes in
      let whole : Passes before t.after (c_bytes (make s.value t.value)) = subst (λ (x : List ℕ). Passes before t.after x) (sym (spelled s.value t.value s.fits t.fits)) both_pass in
      subst (λ (p : C × Unread). Passes before p.1 (c_bytes p.0) × FitsTwo p.0) d (whole, (s.value, t.value, s.fits, t.fits, refl))

  two_again : (before after : Unread) (c : C) → FitsTwo c → Passes before after (c_bytes c) → two_at before ≡ Ok (c, after)
  two_again before after c h p =
      let q : Passes before after (a_bytes h.0 ++ b_bytes h.1) = subst (λ (x : List ℕ). Passes before after x) (ap c_bytes h.4 ∙ spelled h.0 h.1 h.2 h.3) p in
      let middle = unread (b_bytes h.1 ++ after.bytes) (before.place + length (a_bytes h.0)) in
      let s = Passes-split before after (a_bytes h.0) (b_bytes h.1) q in
      step_again field (λ x. behind x.0 x.1 >>= λ y. Ok (make x.0 y.0, y.1)) before middle h.0 h.2 s.0
      ∙ step_again (next h.0 h.2) (λ y. Ok (make h.0 y.0, y.1)) middle after h.1 h.3 s.1
      ∙ ap (λ (x : C). Ok (x, after)) (sym h.4)

  pub made_of_two : IsField FitsTwo c_bytes two_at
  made_of_two = record { takes = two_takes; again = two_again }

-- a value after a number that tells which kind it is
pub tagged_field : {C : Type 0} {Fits : C → Type 0} {k : ℕ → Unread → Read C} (least most : ℕ) (tag : C → ℕ) (tail : C → List ℕ) → most < 256 → ((c : C) → Fits c → (least ≤ tag c) × (tag c ≤ most)) → ((n : ℕ) → (least ≤ n) × (n ≤ most) → IsField (λ c. Fits c × (tag c ≡ n)) tail (k n)) → IsField Fits (λ c. u8_bytes (tag c) ++ tail c) (λ u. between_at least most u >>= λ n. k n.0 n.1)
tagged_field {C} {Fits} least most tag tail lt within rest =
    let then : IsThen (λ n. (least ≤ n) × (n ≤ most)) u8_bytes (λ n c. Fits c × (tag c ≡ n)) (λ n c. tail c) Fits (λ c. u8_bytes (tag c) ++ tail c) = record {
      fits = λ n c _ h. h.0;
      bytes = λ n c h. ap (λ (m : ℕ). u8_bytes m ++ tail c) h.1;
      parts = λ c fits. (tag c, within c fits, (fits, refl));
    } in
    then_field (between_field least most lt) rest then
