-- Counts over a list, and what they say of quorums.
use Rattle.std.proofs.Common.{◌≡◌, ℕ, zero, suc, ◌+◌, ◌*◌, ◌-◌, ◌/◌, ◌%◌, ◌<◌, ◌≤◌, Bool, true, false, not, ◌&&◌, ◌||◌, cond, eqb, leb, ltb, get_or, List, [], ◌∷◌, length, filter, count_by, Contains, refl, sym, ap, subst, ◌∙◌, arith, inl, inr, IsTrue}
use Rattle.std.specs.List.{AllByRecursion}
use Rattle.std.proofs.lemmas.Bool.{eqb-true, leb-true, le-leb, lt-leb, cases_eq, or_cases, or_left, or_right, eq-eqb, and_parts, cases_lt, lt-ltb, le-ltb}
use Rattle.std.proofs.lemmas.List.Sums.{length-filter, count_by-le-length}
use Rattle.acc_topology.specs.Sets.{is_among, IsPartOf}
use Rattle.acc_topology.specs.Layout.{Layout, Shard, IsLayout, IsShard, HasShard, shard_at, no_shard, is_replica_count}
use Rattle.acc_topology.specs.Quorums.{tolerated, majority_size, half_rounded_up, fast_size, is_majority, is_fast, fast_lost, may_be_fast, Meet}
use Rattle.acc_topology.proofs.Bits.{one_if, count_by-cons, count_by-filter}

-- ---- counts

one_of : (b : Bool) → one_if b + one_if (not b) ≡ 1
one_of true = refl
one_of false = refl

of_one : (b : Bool) → 0 + one_if b ≤ 1 + 0
of_one true = omega arith
of_one false = omega arith

of_both : (a b : Bool) → one_if a + one_if b ≤ 1 + one_if (a && b)
of_both true true = omega arith
of_both true false = omega arith
of_both false b = of_one b

of_either : (a b : Bool) → one_if (not a || b) ≡ one_if (not a) + one_if (a && b)
of_either true b = omega arith
of_either false b = refl

module _ {X : Type 0} where
  pub count_by-not : (p : X → Bool) (xs : List X) → count_by p xs + count_by (λ x. not (p x)) xs ≡ length xs
  count_by-not p [] = refl
  count_by-not p (x ∷ xs) = omega (arith, count_by-cons p x xs, count_by-cons (λ y. not (p y)) x xs, one_of (p x), count_by-not p xs)

  pub count_by-both : (p q : X → Bool) (xs : List X) → count_by p xs + count_by q xs ≤ length xs + count_by (λ x. p x && q x) xs
  count_by-both p q [] = omega arith
  count_by-both p q (x ∷ xs) = omega (arith, count_by-cons p x xs, count_by-cons q x xs, count_by-cons (λ y. p y && q y) x xs, of_both (p x) (q x), count_by-both p q xs)

  pub count_by-either : (p q : X → Bool) (xs : List X) → count_by (λ x. not (p x) || q x) xs ≡ count_by (λ x. not (p x)) xs + count_by (λ x. p x && q x) xs
  count_by-either p q [] = refl
  count_by-either p q (x ∷ xs) = omega (arith, count_by-cons (λ y. not (p y) || q y) x xs, count_by-cons (λ y. not (p y)) x xs, count_by-cons (λ y. p y && q y) x xs, of_either (p x) (q x), count_by-either p q xs)

-- a number that passes
pub record Found (p : ℕ → Bool) (ns : List ℕ) : Type 0 where
  pub number : ℕ
  pub among : IsTrue (is_among ns number)
  pub passes : IsTrue (p number)

Found-more : (p : ℕ → Bool) (n : ℕ) (ns : List ℕ) → Found p ns → Found p (n ∷ ns)
Found-more p n ns f = record { number = f.number; among = or_right (eqb n f.number) _ f.among; passes = f.passes }

found_by : (p : ℕ → Bool) (n : ℕ) (ns : List ℕ) (b : Bool) → p n ≡ b → (1 ≤ count_by p ns → Found p ns) → 1 ≤ one_if b + count_by p ns → Found p (n ∷ ns)
found_by p n ns true e rest h = record { number = n; among = or_left (eqb n n) _ (eq-eqb n n refl); passes = e }
found_by p n ns false e rest h = Found-more p n ns (rest (omega arith))

pub found : (p : ℕ → Bool) (ns : List ℕ) → 1 ≤ count_by p ns → Found p ns
found p [] h = absurd (omega arith)
found p (n ∷ ns) h = found_by p n ns (p n) refl (found p ns) (omega (arith, count_by-cons p n ns))

-- ---- a part of a list

among_kept : (p : ℕ → Bool) (m : ℕ) (ns : List ℕ) (n : ℕ) (b : Bool) → p m ≡ b → (IsTrue (is_among (filter p ns) n) → IsTrue (is_among ns n)) → IsTrue (is_among (cond b (m ∷ filter p ns) (filter p ns)) n) → IsTrue (is_among (m ∷ ns) n)
among_kept p m ns n true e rest h =
    elim (or_cases (eqb m n) (is_among (filter p ns) n) h) [
      | inl here ↦ or_left (eqb m n) _ here
      | inr there ↦ or_right (eqb m n) _ (rest there)
    ]
among_kept p m ns n false e rest h = or_right (eqb m n) _ (rest h)

-- what is in a part is in the whole
among_filter : (p : ℕ → Bool) (ns : List ℕ) (n : ℕ) → IsTrue (is_among (filter p ns) n) → IsTrue (is_among ns n)
among_filter p [] n h = h
among_filter p (m ∷ ns) n h = among_kept p m ns n (p m) refl (among_filter p ns n) h

pub among_part : (part whole : List ℕ) → IsPartOf part whole → (n : ℕ) → IsTrue (is_among part n) → IsTrue (is_among whole n)
among_part part whole e n h = among_filter (is_among part) whole n (rw e at h)

-- a part loses no more of a count than of the whole
count_by-part : (p : ℕ → Bool) (part whole : List ℕ) → IsPartOf part whole → count_by p whole + length part ≤ length whole + count_by p part
count_by-part p part whole e =
    let kept : count_by p part ≡ count_by (λ n. is_among part n && p n) whole = ap (count_by p) e ∙ sym (count_by-filter (is_among part) p whole) in
    let long : length part ≡ count_by (is_among part) whole = ap length e ∙ length-filter (is_among part) whole in
    omega (arith, kept, long, count_by-both (is_among part) p whole)

-- ---- sizes

pub replica_count_odd : (n : ℕ) → IsTrue (is_replica_count n) → n ≡ 2 * (n / 2) + 1
replica_count_odd n h =
    let is_odd : (k : ℕ) → k % 2 ≡ 1 → eqb n k ≡ true → n ≡ 2 * (n / 2) + 1 = λ k odd e. omega (arith, eqb-true n k e) in
    elim (or_cases _ (eqb n 7) h) [
      | inr e ↦ is_odd 7 refl e
      | inl i ↦ elim (or_cases _ (eqb n 5) i) [
        | inr e ↦ is_odd 5 refl e
        | inl j ↦ elim (or_cases (eqb n 1) (eqb n 3) j) [ inl e ↦ is_odd 1 refl e | inr e ↦ is_odd 3 refl e ]
      ]
    ]

pub fast_above_majority : (nodes : List ℕ) (s : Shard) → IsShard nodes s → majority_size s ≤ fast_size s
fast_above_majority nodes s is = omega (arith, is.enough)

pub fast_twice : (nodes : List ℕ) (s : Shard) → IsShard nodes s → length s.electorate + tolerated s < 2 * fast_size s
fast_twice nodes s is = omega arith

pub fast_half : (nodes : List ℕ) (s : Shard) → IsShard nodes s → length s.electorate < 2 * fast_size s
fast_half nodes s is = omega arith

pub fast_possible : (nodes : List ℕ) (s : Shard) → IsShard nodes s → fast_size s ≤ length s.electorate
fast_possible nodes s is = omega (arith, is.enough)

-- ---- quorums meet

meet : (s : Shard) (a b : ℕ → Bool) (part : List ℕ) → ((n : ℕ) → IsTrue (is_among part n) → IsTrue (is_among s.replicas n)) → length part < count_by a part + count_by b part → Meet s a b
meet s a b part within more =
    let f = found (λ n. a n && b n) part (omega (arith, count_by-both a b part)) in
    let both = and_parts (a f.number) (b f.number) f.passes in
    (f.number, within f.number f.among, both.0, both.1)

pub majorities_meet : (nodes : List ℕ) (s : Shard) → IsShard nodes s → (a b : ℕ → Bool) → IsTrue (is_majority s a) → IsTrue (is_majority s b) → Meet s a b
majorities_meet nodes s is a b ma mb =
    let odd = replica_count_odd (length s.replicas) is.count in
    meet s a b s.replicas (λ n h. h) (omega (arith, leb-true _ _ ma, leb-true _ _ mb, odd))

-- all of the electorate but f are in each majority
electors_in_majority : (nodes : List ℕ) (s : Shard) → IsShard nodes s → (b : ℕ → Bool) → IsTrue (is_majority s b) → length s.electorate ≤ count_by b s.electorate + tolerated s
electors_in_majority nodes s is b mb =
    omega (arith, leb-true _ _ mb, replica_count_odd (length s.replicas) is.count, count_by-part b s.electorate s.replicas is.electorate)

within_replicas : (nodes : List ℕ) (s : Shard) → IsShard nodes s → (n : ℕ) → IsTrue (is_among s.electorate n) → IsTrue (is_among s.replicas n)
within_replicas nodes s is = among_part s.electorate s.replicas is.electorate

pub fast_meets_majority : (nodes : List ℕ) (s : Shard) → IsShard nodes s → (a b : ℕ → Bool) → IsTrue (is_fast s a) → IsTrue (is_majority s b) → Meet s a b
fast_meets_majority nodes s is a b fa mb =
    meet s a b s.electorate (within_replicas nodes s is)
    (omega (arith, leb-true _ _ fa, electors_in_majority nodes s is b mb, fast_above_majority nodes s is))

pub fast_meets_fast : (nodes : List ℕ) (s : Shard) → IsShard nodes s → (a b : ℕ → Bool) → IsTrue (is_fast s a) → IsTrue (is_fast s b) → Meet s a b
fast_meets_fast nodes s is a b fa fb =
    meet s a b s.electorate (within_replicas nodes s is) (omega (arith, leb-true _ _ fa, leb-true _ _ fb, fast_twice nodes s is))

pub fast_and_majority_meet : (nodes : List ℕ) (s : Shard) → IsShard nodes s → (a b c : ℕ → Bool) → IsTrue (is_fast s a) → IsTrue (is_fast s b) → IsTrue (is_majority s c) → Meet s (λ n. a n && b n) c
fast_and_majority_meet nodes s is a b c fa fb mc =
    meet s (λ n. a n && b n) c s.electorate (within_replicas nodes s is)
    (omega (arith, leb-true _ _ fa, leb-true _ _ fb, electors_in_majority nodes s is c mc, count_by-both a b s.electorate, fast_twice nodes s is))

-- ---- what the other tests say

lost_is : (changed unchanged size all : ℕ) → changed + unchanged ≡ all → size ≤ all → ltb (all - size) changed ≡ not (leb size unchanged)
lost_is changed unchanged size all e le =
    elim (cases_lt (all - size) changed) [
      | inl lt ↦ lt-ltb _ _ lt ∙ ap not (sym (lt-leb size unchanged (omega arith)))
      | inr ge ↦ le-ltb _ _ ge ∙ ap not (sym (le-leb size unchanged (omega arith)))
    ]

pub fast_lost-is : (nodes : List ℕ) (s : Shard) → IsShard nodes s → (changed : ℕ → Bool) → fast_lost s changed ≡ not (is_fast s (λ n. not (changed n)))
fast_lost-is nodes s is changed =
    lost_is (count_by changed s.electorate) (count_by (λ n. not (changed n)) s.electorate) (fast_size s) (length s.electorate) (count_by-not changed s.electorate) (fast_possible nodes s is)

enough_is : (size outside inside : ℕ) → leb (size - outside) inside ≡ leb size (outside + inside)
enough_is size outside inside =
    elim (cases_lt (outside + inside) size) [
      | inl lt ↦ lt-leb _ _ (omega arith) ∙ sym (lt-leb _ _ lt)
      | inr ge ↦ le-leb _ _ (omega arith) ∙ sym (le-leb _ _ ge)
    ]

pub may_be_fast-is : (s : Shard) (answered votes : ℕ → Bool) → may_be_fast s answered votes ≡ is_fast s (λ n. not (answered n) || votes n)
may_be_fast-is s answered votes =
    enough_is (fast_size s) (count_by (λ n. not (answered n)) s.electorate) (count_by (λ n. answered n && votes n) s.electorate)
    ∙ ap (leb (fast_size s)) (sym (count_by-either answered votes s.electorate))

-- an electorate has no more members than there are replicas
electorate_within : (nodes : List ℕ) (s : Shard) → IsShard nodes s → length s.electorate ≤ length s.replicas
electorate_within nodes s is =
    let kept : length s.electorate ≡ count_by (is_among s.electorate) s.replicas = ap length is.electorate ∙ length-filter (is_among s.electorate) s.replicas in
    omega (arith, kept, count_by-le-length (is_among s.electorate) s.replicas)

-- the sizes from one number on, each with the size of a fast quorum
abbrev pub sizes : ℕ → ℕ → ℕ → List (ℕ × ℕ)
sizes replicas from zero = []
sizes replicas from (suc count) = (from, half_rounded_up (from + replicas / 2 + 1)) ∷ sizes replicas (from + 1) count

has_size : (replicas from count size : ℕ) → from ≤ size → size < from + count → Contains (sizes replicas from count) (size, half_rounded_up (size + replicas / 2 + 1))
has_size replicas from zero size le lt = absurd (omega arith)
has_size replicas from (suc count) size le lt =
    elim (cases_eq from size) [
      | inl same ↦ (0, omega arith, ap (λ (n : ℕ). (n, half_rounded_up (n + replicas / 2 + 1))) same)
      | inr other ↦
          let rest = has_size replicas (from + 1) count size (omega arith) (omega arith) in
          (suc rest.0, omega (arith, rest.1), rest.2)
    ]

pub fast_size_in : (nodes : List ℕ) (s : Shard) (replicas : ℕ) → IsShard nodes s → length s.replicas ≡ replicas → Contains (sizes replicas (replicas / 2 + 1) (replicas - replicas / 2)) (length s.electorate, fast_size s)
fast_size_in nodes s replicas is long =
    let there = has_size (length s.replicas) (length s.replicas / 2 + 1) (length s.replicas - length s.replicas / 2) (length s.electorate) is.enough (omega (arith, electorate_within nodes s is)) in
    subst (λ (n : ℕ). Contains (sizes n (n / 2 + 1) (n - n / 2)) (length s.electorate, fast_size s)) long there

-- ---- the shards of a layout

each_at : (nodes : List ℕ) (shards : List Shard) (i : ℕ) → AllByRecursion (IsShard nodes) shards → i < length shards → IsShard nodes (get_or shards i no_shard)
each_at nodes [] i all lt = absurd (omega arith)
each_at nodes (s ∷ shards) zero all lt = all.0
each_at nodes (s ∷ shards) (suc i) all lt = each_at nodes shards i all.1 (omega arith)

pub shard_of_layout : (layout : Layout) (shard : ℕ) → IsLayout layout → HasShard layout shard → IsShard layout.nodes (shard_at layout shard)
shard_of_layout layout shard is has = each_at layout.nodes layout.shards (shard - 1) is.shards (omega (arith, has.0, has.1))
