-- Lists of numbers below 16 put in order.
use Rattle.std.proofs.Common.{◌≡◌, ℕ, zero, suc, ◌+◌, ◌^◌, ◌<◌, ◌≤◌, Bool, true, false, ◌&&◌, ◌||◌, cond, eqb, List, [], ◌∷◌, ◌++◌, length, take, get_or, filter, count_by, refl, sym, ap, ◌∙◌, arith, add-one, inl, inr, IsTrue}
use Rattle.std.specs.List.{range_with_len}
use Rattle.std.proofs.lemmas.Bool.{cases_eq, eq-eqb, ne_eqb, or_left, or_right, and_right}
use Rattle.std.proofs.lemmas.List.{take_more}
use Rattle.std.proofs.lemmas.List.Sums.{length-filter}
use Rattle.acc_topology.specs.Sets.{numbers, in_set, is_among, members, in_order, IsSetOf, IsPartOf}
use Rattle.acc_topology.specs.Layout.{node_numbers}
use Rattle.acc_topology.proofs.Bits.{one_if, count_by-cons}
use Rattle.acc_topology.proofs.Rules.{is_among-push, in_set-below}

-- ---- filters

module _ {X : Type 0} where
  pub filter-same : (p q : X → Bool) → ((x : X) → p x ≡ q x) → (xs : List X) → filter p xs ≡ filter q xs
  filter-same p q h xs = ap (λ (t : X → Bool). filter t xs) (λ i x. h x i)

  kept_twice : (p q : X → Bool) (x : X) (xs : List X) (b : Bool) → p x ≡ b → filter q (filter p xs) ≡ filter (λ y. p y && q y) xs → filter q (cond b (x ∷ filter p xs) (filter p xs)) ≡ cond (b && q x) (x ∷ filter (λ y. p y && q y) xs) (filter (λ y. p y && q y) xs)
  kept_twice p q x xs true e h = ap (λ (ys : List X). cond (q x) (x ∷ ys) ys) h
  kept_twice p q x xs false e h = h

  -- what passes one test and then another
  pub filter-filter : (p q : X → Bool) (xs : List X) → filter q (filter p xs) ≡ filter (λ y. p y && q y) xs
  filter-filter p q [] = refl
  filter-filter p q (x ∷ xs) = kept_twice p q x xs (p x) refl (filter-filter p q xs)

-- ---- what a filter of numbers has

kept_here : (b t a passes : Bool) (m n : ℕ) (ns : List ℕ) → t ≡ true → passes ≡ b → is_among ns n ≡ (a && passes) → eqb m n ≡ t → is_among (cond b (m ∷ ns) ns) n ≡ ((t || a) && passes)
kept_here true t a passes m n ns e f h k = rw (k, e, f) refl
kept_here false t a passes m n ns e f h k = rw (h, e, f) (and_right a false refl)

kept_apart : (b : Bool) (m n : ℕ) (ns : List ℕ) (other : Bool) → eqb m n ≡ false → is_among ns n ≡ other → is_among (cond b (m ∷ ns) ns) n ≡ other
kept_apart true m n ns other e h = ap (λ t. t || is_among ns n) e ∙ h
kept_apart false m n ns other e h = h

among_kept : (p : ℕ → Bool) (m n : ℕ) (ns : List ℕ) (b : Bool) → p m ≡ b → is_among (filter p ns) n ≡ (is_among ns n && p n) → is_among (cond b (m ∷ filter p ns) (filter p ns)) n ≡ ((eqb m n || is_among ns n) && p n)
among_kept p m n ns b e h =
    elim (cases_eq m n) [
      | inl same ↦
          let here : eqb m n ≡ true = eq-eqb m n same in
          let passes : p n ≡ b = ap p (sym same) ∙ e in
          kept_here b (eqb m n) (is_among ns n) (p n) m n (filter p ns) here passes h refl
      | inr other ↦
          let apart : eqb m n ≡ false = ne_eqb m n other in
          kept_apart b m n (filter p ns) (is_among ns n && p n) apart h ∙ ap (λ t. (t || is_among ns n) && p n) (sym apart)
    ]

is_among-filter : (p : ℕ → Bool) (ns : List ℕ) (n : ℕ) → is_among (filter p ns) n ≡ (is_among ns n && p n)
is_among-filter p [] n = refl
is_among-filter p (m ∷ ns) n = among_kept p m n ns (p m) refl (is_among-filter p ns n)

among_range : (a k n : ℕ) → a ≤ n → n < a + k → is_among (range_with_len a k) n ≡ true
among_range a zero n le lt = absurd (omega arith)
among_range a (suc k) n le lt =
    elim (cases_eq a n) [
      | inl same ↦ or_left (eqb a n) _ (eq-eqb a n same)
      | inr other ↦ or_right (eqb a n) _ (among_range (a + 1) k n (omega arith) (omega arith))
    ]

among_numbers : (n : ℕ) → n < 16 → is_among numbers n ≡ true
unfolding numbers
among_numbers n lt = among_range 0 16 n (omega arith) lt

-- all numbers of the list are below 16
abbrev pub AreSmall : List ℕ → Type 0
AreSmall ns = (n : ℕ) → IsTrue (is_among ns n) → n < 16

and_true : (a b : Bool) → (b ≡ true → a ≡ true) → (a && b) ≡ b
and_true true b h = refl
and_true false true h = h refl
and_true false false h = refl

pub is_among-in_order : (ns : List ℕ) → AreSmall ns → (n : ℕ) → is_among (in_order ns) n ≡ is_among ns n
is_among-in_order ns small n = is_among-filter (is_among ns) numbers n ∙ and_true (is_among numbers n) (is_among ns n) (λ e. among_numbers n (small n e))

-- a list whose numbers are all in another one is a part of it, once both are in order
pub in_order-part : (part whole : List ℕ) → AreSmall part → ((n : ℕ) → IsTrue (is_among part n) → IsTrue (is_among whole n)) → IsPartOf (in_order part) (in_order whole)
in_order-part part whole small within =
    sym (filter-filter (is_among whole) (is_among (in_order part)) numbers
    ∙ filter-same (λ n. is_among whole n && is_among (in_order part) n) (is_among part) (λ n. ap (λ b. is_among whole n && b) (is_among-in_order part small n) ∙ and_true (is_among whole n) (is_among part n) (within n)) numbers)

-- node numbers begin at 1
pub in_order-nodes : (ids : List ℕ) → AreSmall ids → is_among ids 0 ≡ false → IsPartOf (in_order ids) node_numbers
unfolding numbers
in_order-nodes ids small lacks =
    let first : in_order ids ≡ filter (is_among ids) node_numbers = ap (λ b. cond b (0 ∷ filter (is_among ids) node_numbers) (filter (is_among ids) node_numbers)) lacks in
    first ∙ filter-same (is_among ids) (is_among (in_order ids)) (λ n. sym (is_among-in_order ids small n)) node_numbers

-- the numbers of a set and those of a list that it is the set of
pub members-in_order : (set : ℕ) (ns : List ℕ) → IsSetOf set ns → members set ≡ in_order ns
members-in_order set ns h = filter-same (in_set set) (is_among ns) h numbers

-- ---- how many numbers there are

one_more : (p b : Bool) → p ≡ false → one_if (p || b) ≡ one_if p + one_if b
one_more true b e = cc
one_more false b e = omega arith

same_one : (p b : Bool) → b ≡ false → one_if (p || b) ≡ one_if p
same_one true b e = refl
same_one false b e = ap one_if e

count_none : (p : ℕ → Bool) (x a k : ℕ) → x < a → count_by (λ n. p n || eqb x n) (range_with_len a k) ≡ count_by p (range_with_len a k)
count_none p x a zero lt = refl
count_none p x a (suc k) lt =
    omega (arith, count_by-cons (λ n. p n || eqb x n) a (range_with_len (a + 1) k), count_by-cons p a (range_with_len (a + 1) k), same_one (p a) (eqb x a) (ne_eqb x a (λ e. omega arith)), count_none p x (a + 1) k (omega arith))

count_one : (p : ℕ → Bool) (x a k : ℕ) → p x ≡ false → a ≤ x → x < a + k → count_by (λ n. p n || eqb x n) (range_with_len a k) ≡ count_by p (range_with_len a k) + 1
count_one p x a zero lacks le lt = absurd (omega arith)
count_one p x a (suc k) lacks le lt =
    let counts = count_by-cons (λ n. p n || eqb x n) a (range_with_len (a + 1) k) in
    let others = count_by-cons p a (range_with_len (a + 1) k) in
    elim (cases_eq x a) [
      | inl same ↦
          let one : one_if (eqb x a) ≡ 1 = ap one_if (eq-eqb x a same) in
          omega (arith, counts, others, one_more (p a) (eqb x a) (ap p (sym same) ∙ lacks), one, count_none p x (a + 1) k (omega arith))
      | inr other ↦ omega (arith, counts, others, same_one (p a) (eqb x a) (ne_eqb x a other), count_one p x (a + 1) k lacks (omega arith) (omega arith))
    ]

length-in_order-push : (ns : List ℕ) (x : ℕ) → is_among ns x ≡ false → x < 16 → length (in_order (ns ++ x ∷ [])) ≡ length (in_order ns) + 1
unfolding numbers
length-in_order-push ns x lacks lt =
    ap (λ (p : ℕ → Bool). length (filter p numbers)) (λ i n. is_among-push ns x n i)
    ∙ length-filter (λ n. is_among ns n || eqb x n) numbers ∙ count_one (is_among ns) x 0 16 lacks (omega arith) lt
    ∙ ap (λ (k : ℕ). k + 1) (sym (length-filter (is_among ns) numbers))

nothing : (ns : List ℕ) → length (filter (is_among []) ns) ≡ 0
nothing [] = refl
nothing (n ∷ ns) = nothing ns

-- where each number is new and small, putting them in order keeps their count
pub length-in_order-take : (ns : List ℕ) (k : ℕ) → k ≤ length ns → ((i : ℕ) → i < length ns → (is_among (take i ns) (get_or ns i 0) ≡ false) × (get_or ns i 0 < 16)) → length (in_order (take k ns)) ≡ k
length-in_order-take ns zero le each = nothing numbers
length-in_order-take ns (suc k) le each =
    let here = each k (omega arith) in
    ap (λ (l : List ℕ). length (in_order l)) (rw (← add-one) (take_more ns k 0 (omega arith)))
    ∙ length-in_order-push (take k ns) (get_or ns k 0) here.0 here.1
    ∙ rw add-one (ap suc (length-in_order-take ns k (omega arith) each))

pub IsSetOf-members : (set : ℕ) → set < 2 ^ 16 → IsSetOf set (members set)
IsSetOf-members set small n =
    sym (is_among-filter (in_set set) numbers n ∙ and_true (is_among numbers n) (in_set set n) (λ e. among_numbers n (in_set-below set n small e)))
