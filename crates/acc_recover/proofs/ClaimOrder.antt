-- Claims are in a total order, so that the highest of several doesn't depend on how they are grouped.
use Rattle.std.proofs.Common.{◌≡◌, Bool, true, false, not, ◌&&◌, ◌||◌, cond, nat_lt, nat_eq, List, [], ◌∷◌, ◌++◌, Option, None, Some, Ordering, refl, sym, ◌∙◌, ap}
use Rattle.std.specs.Bool.{beq}
use Rattle.std.specs.Cmp.{IsTotalOrder, bool_cmp_total}
use Rattle.std.specs.declared.cmp.Ordering.TheVariants.{Less, Equal, Greater}
use Rattle.std.specs.Ordering.{nat_cmp, bool_cmp, is_lt, ordering_then, ordering_reverse, then_cmp, on, flip_args}
use Rattle.std.proofs.lemmas.Bool.{true≢false}
use Rattle.std.proofs.lemmas.Cmp.{nat_cmp_total, on_total, then_total, back_total}
use Rattle.acc_stamp.specs.Actor.{node_of, shard_of}
use Rattle.acc_stamp.specs.Stamp.{ballot_cmp, ballot_lt, ballot_eq}
use Rattle.acc_stamp.specs.Order.{IsStrictTotalOrder}
use Rattle.acc_stamp.proofs.Order.{ballot_order, ballot_cmp_total, number_order, nat_cmp-is_lt, eq-sym, apart_back}
use Rattle.acc_deps.specs.Records.{store_lt, Claim, is_committed_before, outranks, higher_of, highest_claim}

-- ---- in any total order, a list of three has one first element

module _ {K : Type 0} {R : K → K → Ordering} (total : IsTotalOrder R) where
  before : K → K → Bool
  before a b = is_lt (R a b)

  is_less : (r : Ordering) → is_lt r ≡ true → r ≡ Less
  is_less Less h = refl
  is_less Equal h = absurd (true≢false (sym h))
  is_less Greater h = absurd (true≢false (sym h))

  not_before_by : (a b c : K) (r s : Ordering) → R a b ≡ r → R a c ≡ s → is_lt r ≡ false → is_lt (R b c) ≡ false → is_lt s ≡ false
  not_before_by a b c Less s p q h k = absurd (true≢false h)
  not_before_by a b c Equal s p q h k = sym (ap is_lt (sym (total.congr a b c p) ∙ q)) ∙ k
  not_before_by a b c Greater Less p q h k =
      absurd (true≢false (sym (ap is_lt (total.trans b a c (total.antisymm b a ∙ ap ordering_reverse p) q)) ∙ k))
  not_before_by a b c Greater Equal p q h k = refl
  not_before_by a b c Greater Greater p q h k = refl

  pub before-trans : (a b c : K) → is_lt (R a b) ≡ true → is_lt (R b c) ≡ true → is_lt (R a c) ≡ true
  before-trans a b c h k = ap is_lt (total.trans a b c (is_less (R a b) h) (is_less (R b c) k))

  pub not_before-trans : (a b c : K) → is_lt (R a b) ≡ false → is_lt (R b c) ≡ false → is_lt (R a c) ≡ false
  not_before-trans a b c h k = not_before_by a b c (R a b) (R a c) refl refl h k

-- ---- the order of claims

claim_cmp : Claim → Claim → Ordering
claim_cmp =
    then_cmp (on (λ (c : Claim). c.ballot) (flip_args ballot_cmp))
    (then_cmp (on (λ (c : Claim). c.is_committed) (flip_args bool_cmp))
    (then_cmp (on (λ (c : Claim). shard_of c.store) nat_cmp) (on (λ (c : Claim). node_of c.store) nat_cmp)))

claim_cmp_total : IsTotalOrder claim_cmp
unfolding claim_cmp
claim_cmp_total =
    then_total (on_total (λ (c : Claim). c.ballot) (back_total ballot_cmp_total))
    (then_total (on_total (λ (c : Claim). c.is_committed) (back_total bool_cmp_total))
    (then_total (on_total (λ (c : Claim). shard_of c.store) nat_cmp_total) (on_total (λ (c : Claim). node_of c.store) nat_cmp_total)))

-- what a lexicographic test says, by the answer of a comparison
module _ {K : Type 0} {R : K → K → Ordering} {lt eq : K → K → Bool} (total : IsTotalOrder R) (o : IsStrictTotalOrder lt eq) (same : (a b : K) → is_lt (R a b) ≡ lt a b) where
  not_below : (a b : K) (r : Ordering) → R a b ≡ r → is_lt (ordering_reverse r) ≡ false → lt b a ≡ false
  not_below a b r e h = sym (same b a) ∙ ap is_lt (total.antisymm b a) ∙ ap (λ z. is_lt (ordering_reverse z)) e ∙ h

  by_answer : (a b : K) (r later : Ordering) → R a b ≡ r → (lt a b || (eq a b && is_lt later)) ≡ is_lt (ordering_then r later)
  by_answer a b Less later e = ap (λ z. z || (eq a b && is_lt later)) (sym (same a b) ∙ ap is_lt e)
  by_answer a b Equal later e =
      let below : lt a b ≡ false = sym (same a b) ∙ ap is_lt e in
      ap (λ z. z || (eq a b && is_lt later)) below
      ∙ ap (λ z. z && is_lt later) ((o.decides a b).1 (o.connected a b below (not_below a b Equal e refl)))
  by_answer a b Greater later e =
      let above : lt b a ≡ true = sym (same b a) ∙ ap is_lt (total.antisymm b a) ∙ ap (λ z. is_lt (ordering_reverse z)) e in
      ap (λ z. z || (eq a b && is_lt later)) (sym (same a b) ∙ ap is_lt e) ∙ ap (λ z. z && is_lt later) (apart_back o b a above)

  pub lexicographic : (a b : K) (later : Ordering) → (lt a b || (eq a b && is_lt later)) ≡ is_lt (ordering_then (R a b) later)
  lexicographic a b later = by_answer a b (R a b) later refl

by_commitment : (a b : Bool) (later : Ordering) → ((a && not b) || (beq a b && is_lt later)) ≡ is_lt (ordering_then (bool_cmp b a) later)
by_commitment true true later = refl
by_commitment true false later = refl
by_commitment false true later = refl
by_commitment false false later = refl

outranks-is : (a b : Claim) → outranks a b ≡ is_lt (claim_cmp a b)
unfolding claim_cmp
outranks-is a b =
    let numbers = lexicographic nat_cmp_total number_order nat_cmp-is_lt in
    let ballots = lexicographic ballot_cmp_total ballot_order (λ x y. refl) in
    let by_node : Ordering = nat_cmp (node_of a.store) (node_of b.store) in
    let by_shard : Ordering = ordering_then (nat_cmp (shard_of a.store) (shard_of b.store)) by_node in
    let by_flag : Ordering = ordering_then (bool_cmp b.is_committed a.is_committed) by_shard in
    let stores : store_lt a.store b.store ≡ is_lt by_shard =
    ap (λ z. nat_lt (shard_of a.store) (shard_of b.store) || (nat_eq (shard_of a.store) (shard_of b.store) && z)) (sym (nat_cmp-is_lt (node_of a.store) (node_of b.store)))
    ∙ numbers (shard_of a.store) (shard_of b.store) by_node in
    let flags : is_committed_before a b ≡ is_lt by_flag =
    ap (λ z. (a.is_committed && not b.is_committed) || (beq a.is_committed b.is_committed && z)) stores ∙ by_commitment a.is_committed b.is_committed by_shard in
    ap (λ z. ballot_lt b.ballot a.ballot || (z && is_committed_before a b)) (eq-sym ballot_order a.ballot b.ballot)
    ∙ ap (λ z. ballot_lt b.ballot a.ballot || (ballot_eq b.ballot a.ballot && z)) flags
    ∙ ballots b.ballot a.ballot by_flag

outranks-trans : (a b c : Claim) → outranks a b ≡ true → outranks b c ≡ true → outranks a c ≡ true
outranks-trans a b c h k =
    outranks-is a c ∙ before-trans claim_cmp_total a b c (sym (outranks-is a b) ∙ h) (sym (outranks-is b c) ∙ k)

not_outranks-trans : (a b c : Claim) → outranks a b ≡ false → outranks b c ≡ false → outranks a c ≡ false
not_outranks-trans a b c h k =
    outranks-is a c ∙ not_before-trans claim_cmp_total a b c (sym (outranks-is a b) ∙ h) (sym (outranks-is b c) ∙ k)

-- ---- the higher of three

abbrev pub higher_opt : Option Claim → Option Claim → Option Claim
higher_opt None o = o
higher_opt (Some c) o = Some (higher_of c o)

by_tests : (c e d : Claim) (p q : Bool) → outranks e c ≡ p → outranks d e ≡ q
    → higher_of c (Some (cond q d e)) ≡ higher_of (cond p e c) (Some d)
by_tests c e d true true p q = ap (λ z. cond z d c) (outranks-trans d e c q p) ∙ ap (λ z. cond z d e) (sym q)
by_tests c e d true false p q = ap (λ z. cond z e c) p ∙ ap (λ z. cond z d e) (sym q)
by_tests c e d false true p q = refl
by_tests c e d false false p q =
    ap (λ z. cond z e c) p ∙ ap (λ z. cond z d c) (sym (not_outranks-trans d e c q p))

higher_of-assoc : (c e : Claim) (o : Option Claim) → higher_of c (Some (higher_of e o)) ≡ higher_of (higher_of c (Some e)) o
higher_of-assoc c e None = refl
higher_of-assoc c e (Some d) = by_tests c e d (outranks e c) (outranks d e) refl refl

higher_opt-joined : (c : Claim) (o p : Option Claim) → Some (higher_of c (higher_opt o p)) ≡ Some (higher_of (higher_of c o) p)
higher_opt-joined c None p = refl
higher_opt-joined c (Some e) p = ap Some (higher_of-assoc c e p)

pub highest_claim-append : (cs ds : List Claim) → highest_claim (cs ++ ds) ≡ higher_opt (highest_claim cs) (highest_claim ds)
highest_claim-append [] ds = refl
highest_claim-append (c ∷ cs) ds =
    ap (λ z. Some (higher_of c z)) (highest_claim-append cs ds) ∙ higher_opt-joined c (highest_claim cs) (highest_claim ds)
