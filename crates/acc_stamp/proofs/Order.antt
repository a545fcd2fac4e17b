-- Stamps, and the names made of one, are in a strict total order; what follows from such an order.
use Rattle.std.proofs.Common.{◌≡◌, ℕ, ◌<◌, ◌≤◌, Bool, true, false, not, ◌⊎◌, nat_lt, nat_eq, Ordering, sym, refl, ap, ◌∙◌, inl, inr, arith}
use Rattle.std.specs.Bool.{Decides}
use Rattle.std.specs.Cmp.{IsTotalOrder}
use Rattle.std.specs.declared.cmp.Ordering.TheVariants.{Less, Equal, Greater}
use Rattle.std.specs.Ordering.{nat_cmp, is_lt, MatchOrdering, ordering_reverse}
use Rattle.std.proofs.lemmas.Bool.{true≢false, false_from_ne_true}
use Rattle.std.proofs.lemmas.Bool.Decides.{nat_tests, Decides-eqb, Decides-and, Decides-like, same_from_decides}
use Rattle.std.proofs.lemmas.Cmp.{nat_cmp_total, on_total, then_total}
use Rattle.std.proofs.lemmas.Map.Lookups.{CmpEqualImpliesEq}
use Rattle.acc_stamp.specs.declared.stamps.Stamp.{Stamp}
use Rattle.acc_stamp.specs.declared.stamps.TxnId.{TxnId}
use Rattle.acc_stamp.specs.declared.stamps.Ballot.{Ballot}
use Rattle.acc_stamp.specs.Stamp.{stamp_cmp, stamp_lt, stamp_le, stamp_eq, id_cmp, id_lt, id_eq, ballot_cmp, ballot_lt, ballot_eq}
use Rattle.acc_stamp.specs.Order.{IsStrictTotalOrder}

-- ---- what follows from a strict total order

module _ {K : Type 0} {lt eq : K → K → Bool} (o : IsStrictTotalOrder lt eq) where
  pub asym : (x y : K) → lt x y ≡ true → lt y x ≡ false
  asym x y h = false_from_ne_true (lt y x) (λ k. true≢false (sym (o.trans x y x h k) ∙ o.irrefl x))

  pub eq_itself : (x : K) → eq x x ≡ true
  eq_itself x = (o.decides x x).1 refl

  pub eq-sym : (x y : K) → eq x y ≡ eq y x
  eq-sym x y = same_from_decides (eq x y) (eq y x) (o.decides x y) (Decides-like (eq y x) sym sym (o.decides y x))

  -- what is below is another, seen from either side
  pub apart : (x y : K) → lt x y ≡ true → eq x y ≡ false
  apart x y h = false_from_ne_true (eq x y) (λ k. true≢false (sym h ∙ ap (lt x) (sym ((o.decides x y).0 k)) ∙ o.irrefl x))

  pub apart_back : (x y : K) → lt x y ≡ true → eq y x ≡ false
  apart_back x y h = eq-sym y x ∙ apart x y h

  lt_or_not : (x y : K) (a b : Bool) → lt x y ≡ a → lt y x ≡ b → (lt x y ≡ true) ⊎ ((x ≡ y) ⊎ (lt y x ≡ true))
  lt_or_not x y true b p q = inl p
  lt_or_not x y false true p q = inr (inr q)
  lt_or_not x y false false p q = inr (inl (o.connected x y p q))

  pub trichotomy : (x y : K) → (lt x y ≡ true) ⊎ ((x ≡ y) ⊎ (lt y x ≡ true))
  trichotomy x y = lt_or_not x y (lt x y) (lt y x) refl refl

  not_above : (x y z : K) (a : Bool) → lt x y ≡ a → lt y x ≡ false → lt y z ≡ true → lt x z ≡ true
  not_above x y z true p h k = o.trans x y z p k
  not_above x y z false p h k = ap (λ w. lt w z) (o.connected x y p h) ∙ k

  -- x isn't above y, and y is below z
  pub le-lt-trans : (x y z : K) → lt y x ≡ false → lt y z ≡ true → lt x z ≡ true
  le-lt-trans x y z = not_above x y z (lt x y) refl

  below_not_above : (x y z : K) (a : Bool) → lt y z ≡ a → lt x y ≡ true → lt z y ≡ false → lt x z ≡ true
  below_not_above x y z true p h k = o.trans x y z h p
  below_not_above x y z false p h k = ap (lt x) (sym (o.connected y z p k)) ∙ h

  -- x is below y, and y isn't above z
  pub lt-le-trans : (x y z : K) → lt x y ≡ true → lt z y ≡ false → lt x z ≡ true
  lt-le-trans x y z = below_not_above x y z (lt y z) refl

  -- x isn't above y, and y isn't above z
  pub le-trans : (x y z : K) → lt y x ≡ false → lt z y ≡ false → lt z x ≡ false
  le-trans x y z h k = false_from_ne_true (lt z x) (λ p. true≢false (sym (lt-le-trans z x y p h) ∙ k))

-- ---- the orders

same_stamp : (a b : Stamp) → a.h ≡ b.h → a.origin ≡ b.origin → a ≡ b
same_stamp a b p q = λ i. record { h = p i; origin = q i }

pub stamp_eq-Decides : (a b : Stamp) → Decides (stamp_eq a b) (a ≡ b)
stamp_eq-Decides a b = Decides-like _ (λ h. same_stamp a b h.0 h.1) (λ e. (ap (λ s. s.h) e, ap (λ s. s.origin) e)) (Decides-and _ _ (Decides-eqb a.h b.h) (Decides-eqb a.origin b.origin))

stamps_connected : (a b : Stamp) → stamp_lt a b ≡ false → stamp_lt b a ≡ false → (a.h ≡ b.h) × (a.origin ≡ b.origin)
stamps_connected a b h k = grind (arith, nat_tests)

stamp_lt-irrefl : (a : Stamp) → stamp_lt a a ≡ false
stamp_lt-irrefl a = grind (arith, nat_tests)

stamp_lt-trans : (a b c : Stamp) → stamp_lt a b ≡ true → stamp_lt b c ≡ true → stamp_lt a c ≡ true
stamp_lt-trans a b c h k = grind (arith, nat_tests)

pub stamp_order : IsStrictTotalOrder stamp_lt stamp_eq
stamp_order = record {
  irrefl = stamp_lt-irrefl;
  trans = stamp_lt-trans;
  connected = λ a b h k. let e = stamps_connected a b h k in same_stamp a b e.0 e.1;
  decides = stamp_eq-Decides;
}

same_id : (a b : TxnId) → a.0 ≡ b.0 → a ≡ b
same_id a b p = λ i. record { 0 = p i }

pub id_order : IsStrictTotalOrder id_lt id_eq
id_order = record {
  irrefl = λ a. stamp_lt-irrefl a.0;
  trans = λ a b c. stamp_lt-trans a.0 b.0 c.0;
  connected = λ a b h k. same_id a b (stamp_order.connected a.0 b.0 h k);
  decides = λ a b. Decides-like _ (same_id a b) (ap (λ x. x.0)) (stamp_eq-Decides a.0 b.0);
}

same_ballot : (a b : Ballot) → a.0 ≡ b.0 → a ≡ b
same_ballot a b p = λ i. record { 0 = p i }

pub ballot_order : IsStrictTotalOrder ballot_lt ballot_eq
ballot_order = record {
  irrefl = λ a. stamp_lt-irrefl a.0;
  trans = λ a b c. stamp_lt-trans a.0 b.0 c.0;
  connected = λ a b h k. same_ballot a b (stamp_order.connected a.0 b.0 h k);
  decides = λ a b. Decides-like _ (same_ballot a b) (ap (λ x. x.0)) (stamp_eq-Decides a.0 b.0);
}

numbers_irrefl : (a : ℕ) → nat_lt a a ≡ false
numbers_irrefl a = grind (arith, nat_tests)

numbers_trans : (a b c : ℕ) → nat_lt a b ≡ true → nat_lt b c ≡ true → nat_lt a c ≡ true
numbers_trans a b c h k = grind (arith, nat_tests)

numbers_connected : (a b : ℕ) → nat_lt a b ≡ false → nat_lt b a ≡ false → a ≡ b
numbers_connected a b h k = grind (arith, nat_tests)

pub number_order : IsStrictTotalOrder nat_lt nat_eq
number_order = record { irrefl = numbers_irrefl; trans = numbers_trans; connected = numbers_connected; decides = Decides-eqb }

-- ---- the answers of `cmp`

pub stamp_cmp_total : IsTotalOrder stamp_cmp
stamp_cmp_total = then_total (on_total (λ s. s.h) nat_cmp_total) (on_total (λ s. s.origin) nat_cmp_total)

stamp_cmp_parts : (a b : Stamp) → stamp_cmp a b ≡ Equal → (a.h ≡ b.h) × (a.origin ≡ b.origin)
stamp_cmp_parts a b e = grind (arith, nat_tests)

pub stamp_cmp_exact : CmpEqualImpliesEq stamp_cmp
stamp_cmp_exact a b e = let p = stamp_cmp_parts a b e in same_stamp a b p.0 p.1

ranks : (a b : Stamp) (r : Ordering) → stamp_cmp a b ≡ r → MatchOrdering r (stamp_lt a b ≡ true) (a ≡ b) (stamp_lt b a ≡ true)
ranks a b Less e = ap is_lt e
ranks a b Equal e = stamp_cmp_exact a b e
ranks a b Greater e = ap is_lt (stamp_cmp_total.antisymm b a ∙ ap ordering_reverse e)

-- what each answer says
pub stamp_cmp-ranks : (a b : Stamp) → MatchOrdering (stamp_cmp a b) (stamp_lt a b ≡ true) (a ≡ b) (stamp_lt b a ≡ true)
stamp_cmp-ranks a b = ranks a b (stamp_cmp a b) refl

pub id_cmp_total : IsTotalOrder id_cmp
id_cmp_total = on_total (λ x. x.0) stamp_cmp_total

pub id_cmp_exact : CmpEqualImpliesEq id_cmp
id_cmp_exact a b e = same_id a b (stamp_cmp_exact a.0 b.0 e)

pub ballot_cmp_total : IsTotalOrder ballot_cmp
ballot_cmp_total = on_total (λ x. x.0) stamp_cmp_total

pub ballot_cmp_exact : CmpEqualImpliesEq ballot_cmp
ballot_cmp_exact a b e = same_ballot a b (stamp_cmp_exact a.0 b.0 e)

-- ---- stamps by their parts

pub stamp_lt-tells : (a b : Stamp) → stamp_lt a b ≡ true → (a.h < b.h) ⊎ ((a.h ≡ b.h) × (a.origin < b.origin))
stamp_lt-tells a b e = grind (arith, nat_tests)

pub stamp_lt-from_h : (a b : Stamp) → a.h < b.h → stamp_lt a b ≡ true
stamp_lt-from_h a b h = grind (arith, nat_tests)

pub stamp_lt-h : (a b : Stamp) → stamp_lt a b ≡ true → a.h ≤ b.h
stamp_lt-h a b e = grind (arith, nat_tests)

pub stamp_le-not_lt : (a b : Stamp) → stamp_le a b ≡ not (stamp_lt b a)
stamp_le-not_lt a b = grind (arith, nat_tests)

pub nat_cmp-is_lt : (a b : ℕ) → is_lt (nat_cmp a b) ≡ nat_lt a b
nat_cmp-is_lt a b = grind (arith, nat_tests)
