-- Node numbers that are as many as those of them in order: each stands once among them.
use Rattle.std.proofs.Common.{◌≡◌, ℕ, zero, suc, ◌+◌, ◌<◌, ◌≤◌, Bool, true, false, ◌||◌, eqb, ◌⊎◌, inl, inr, List, [], ◌∷◌, length, filter, count_by, refl, sym, ◌∙◌, ap, subst, arith}
use Rattle.std.specs.List.{list_any, range_with_len, AllByRecursion}
use Rattle.std.proofs.lemmas.Bool.{cases_eq, eq-eqb, ne_eqb, or_left, or_right, true≢false}
use Rattle.std.proofs.lemmas.Bool.Decides.{Decides-eqb}
use Rattle.std.proofs.lemmas.List.Sums.{length-filter}
use Rattle.acc_topology.specs.declared.given.NodeSpec.{NodeSpec}
use Rattle.acc_topology.specs.Faults.{ids}
use Rattle.acc_topology.specs.Sets.{numbers, is_among, in_order}
use Rattle.acc_topology.proofs.Bits.{one_if, count_by-cons}
use Rattle.acc_topology.proofs.Listed.{filter-same}
use Rattle.acc_safety.proofs.PlaceOrder.{Passing, passing, any_from, IsIn-filter, filter-IsIn}

-- ---- counts

either : (a b : Bool) → one_if (a || b) ≤ one_if a + one_if b
either true b = omega arith
either false b = omega arith

count_or : (p q : ℕ → Bool) (ks : List ℕ) → count_by (λ k. p k || q k) ks ≤ count_by p ks + count_by q ks
count_or p q [] = omega arith
count_or p q (k ∷ ks) =
    omega (arith, count_by-cons (λ k. p k || q k) k ks, count_by-cons p k ks, count_by-cons q k ks, either (p k) (q k), count_or p q ks)

-- what isn't there isn't counted
count_none : (p : ℕ → Bool) (ks : List ℕ) → list_any p ks ≡ false → count_by p ks ≡ 0
count_none p [] none = refl
count_none p (k ∷ ks) none = by (p k) refl none (λ h. count_none p ks h)
  where
    by : (here : Bool) → p k ≡ here → (here || list_any p ks) ≡ false → (list_any p ks ≡ false → count_by p ks ≡ 0) → count_by p (k ∷ ks) ≡ 0
    by true is h rest = absurd (true≢false h)
    by false is h rest =
        let none : one_if (p k) ≡ 0 = ap one_if is in omega (arith, count_by-cons p k ks, none, rest h)

-- no number stands twice in a range
apart : (m a k : ℕ) → m < a → count_by (λ n. eqb m n) (range_with_len a k) ≡ 0
apart m a zero less = refl
apart m a (suc k) less =
    let none : one_if (eqb m a) ≡ 0 = ap one_if (ne_eqb m a (λ e. omega arith)) in
    let later : m < a + 1 = omega arith in
    omega (arith, count_by-cons (λ n. eqb m n) a (range_with_len (a + 1) k), none, apart m (a + 1) k later)

once_in_range : (m a k : ℕ) → count_by (λ n. eqb m n) (range_with_len a k) ≤ 1
once_in_range m a zero = omega arith
once_in_range m a (suc k) = by (cases_eq m a) (once_in_range m (a + 1) k)
  where
    counted : count_by (λ n. eqb m n) (range_with_len a (suc k)) ≡ one_if (eqb m a) + count_by (λ n. eqb m n) (range_with_len (a + 1) k)
    counted = count_by-cons (λ n. eqb m n) a (range_with_len (a + 1) k)

    by : (m ≡ a) ⊎ (m ≡ a → ⊥) → count_by (λ n. eqb m n) (range_with_len (a + 1) k) ≤ 1 → count_by (λ n. eqb m n) (range_with_len a (suc k)) ≤ 1
    by (inl same) rest =
        let here : one_if (eqb m a) ≡ 1 = ap one_if (eq-eqb m a same) in
        let less : m < a + 1 = omega arith in
        omega (arith, counted, here, apart m (a + 1) k less)
    by (inr other) rest =
        let none : one_if (eqb m a) ≡ 0 = ap one_if (ne_eqb m a other) in omega (arith, counted, none, rest)

once_in_numbers : (m : ℕ) → count_by (λ n. eqb m n) numbers ≤ 1
unfolding numbers
once_in_numbers m = once_in_range m 0 16

-- ---- one number more

how_many : (ns : List ℕ) → length (in_order ns) ≡ count_by (is_among ns) numbers
how_many ns = length-filter (is_among ns) numbers

one_more : (m : ℕ) (ns : List ℕ) → length (in_order (m ∷ ns)) ≤ count_by (λ n. eqb m n) numbers + length (in_order ns)
one_more m ns = omega (arith, how_many (m ∷ ns), how_many ns, count_or (λ n. eqb m n) (is_among ns) numbers)

again : (m : ℕ) (ns : List ℕ) → is_among ns m ≡ true → length (in_order (m ∷ ns)) ≡ length (in_order ns)
again m ns there = ap (λ (ks : List ℕ). length ks) (filter-same (is_among (m ∷ ns)) (is_among ns) (λ n. by n (cases_eq m n)) numbers)
  where
    by : (n : ℕ) → (m ≡ n) ⊎ (m ≡ n → ⊥) → (eqb m n || is_among ns n) ≡ is_among ns n
    by n (inl same) =
        let known : is_among ns n ≡ true = subst (λ k. is_among ns k ≡ true) same there in
        or_right (eqb m n) (is_among ns n) known ∙ sym known
    by n (inr other) = ap (λ b. b || is_among ns n) (ne_eqb m n other)

no_more : (ns : List ℕ) → length (in_order ns) ≤ length ns
no_more [] = by numbers
  where
    none : (ks : List ℕ) → length (filter (is_among []) ks) ≡ 0
    none [] = refl
    none (k ∷ ks) = none ks

    by : (ks : List ℕ) → length (filter (is_among []) ks) ≤ 0
    by ks = omega (arith, none ks)
no_more (m ∷ ns) = omega (arith, one_more m ns, once_in_numbers m, no_more ns)

-- ---- as many as in order

-- the first number is new and one of those that a set can have, and the others are as many as they are in order
record First (m : ℕ) (ns : List ℕ) : Type 0 where
  new : is_among ns m ≡ false
  known : list_any (λ n. eqb m n) numbers ≡ true
  others : length (in_order ns) ≡ length ns

first : (m : ℕ) (ns : List ℕ) → length (in_order (m ∷ ns)) ≡ length (m ∷ ns) → First m ns
first m ns same =
    record {
      new = by_new (is_among ns m) refl;
      known = by_known (list_any (λ n. eqb m n) numbers) refl;
      others = omega (arith, same, one_more m ns, once_in_numbers m, no_more ns);
    }
  where
    by_new : (there : Bool) → is_among ns m ≡ there → is_among ns m ≡ false
    by_new true is = absurd (few (again m ns is) same (no_more ns))
      where
        few : {n k l : ℕ} → n ≡ k → n ≡ suc l → k ≤ l → ⊥
        few g h e = omega arith
    by_new false is = is

    by_known : (there : Bool) → list_any (λ n. eqb m n) numbers ≡ there → list_any (λ n. eqb m n) numbers ≡ true
    by_known true is = is
    by_known false is = absurd (few (one_more m ns) (count_none (λ n. eqb m n) numbers is) same (no_more ns))
      where
        few : {n c k l : ℕ} → n ≤ c + k → c ≡ 0 → n ≡ suc l → k ≤ l → ⊥
        few g h e f = omega arith

-- ---- starts

none_of : (node : ℕ) (others : List NodeSpec) → is_among (ids others) node ≡ false → count_by (λ (t : NodeSpec). eqb t.id node) others ≡ 0
none_of node [] none = refl
none_of node (t ∷ others) none = here (eqb t.id node) refl none (λ h. none_of node others h)
  where
    here : (b : Bool) → eqb t.id node ≡ b → (b || is_among (ids others) node) ≡ false
        → (is_among (ids others) node ≡ false → count_by (λ (u : NodeSpec). eqb u.id node) others ≡ 0)
        → count_by (λ (u : NodeSpec). eqb u.id node) (t ∷ others) ≡ 0
    here true is h rest = absurd (true≢false h)
    here false is h rest =
        let zero_here : one_if (eqb t.id node) ≡ 0 = ap one_if is in
        omega (arith, count_by-cons (λ (u : NodeSpec). eqb u.id node) t others, zero_here, rest h)

pub starts_once : (starts : List NodeSpec) → length (in_order (ids starts)) ≡ length (ids starts) → (node : ℕ) → is_among (ids starts) node ≡ true
    → count_by (λ (s : NodeSpec). eqb s.id node) starts ≡ 1
starts_once [] same node there = absurd (true≢false (sym there))
starts_once (s ∷ starts) same node there =
    by (eqb s.id node) refl there (λ h. starts_once starts (first s.id (ids starts) same).others node h)
  where
    one : First s.id (ids starts)
    one = first s.id (ids starts) same

    counted : count_by (λ (t : NodeSpec). eqb t.id node) (s ∷ starts) ≡ one_if (eqb s.id node) + count_by (λ (t : NodeSpec). eqb t.id node) starts
    counted = count_by-cons (λ (t : NodeSpec). eqb t.id node) s starts

    by : (here : Bool) → eqb s.id node ≡ here → (here || is_among (ids starts) node) ≡ true
        → (is_among (ids starts) node ≡ true → count_by (λ (t : NodeSpec). eqb t.id node) starts ≡ 1)
        → count_by (λ (t : NodeSpec). eqb t.id node) (s ∷ starts) ≡ 1
    by true is h rest =
        let one_here : one_if (eqb s.id node) ≡ 1 = ap one_if is in
        let same_node : s.id ≡ node = (Decides-eqb s.id node).0 is in
        let none : is_among (ids starts) node ≡ false = subst (λ n. is_among (ids starts) n ≡ false) same_node one.new in
        omega (arith, counted, one_here, none_of node starts none)
    by false is h rest =
        let none_here : one_if (eqb s.id node) ≡ 0 = ap one_if is in omega (arith, counted, none_here, rest h)

-- in order they have what they have
pub among_ids : (ns : List ℕ) (node : ℕ) → is_among (in_order ns) node ≡ true → is_among ns node ≡ true
among_ids ns node there =
    let found : Passing (λ m. eqb m node) (in_order ns) = passing (λ m. eqb m node) (in_order ns) there in
    let kept = IsIn-filter (is_among ns) found.element numbers found.there in
    subst (λ n. is_among ns n ≡ true) ((Decides-eqb found.element node).0 found.passes) kept.1

pub starts_only : (starts : List NodeSpec) → length (in_order (ids starts)) ≡ length (ids starts)
    → AllByRecursion (λ (s : NodeSpec). is_among (in_order (ids starts)) s.id ≡ true) starts
starts_only starts same = each starts same (λ n there. there)
  where
    each : (some : List NodeSpec) → length (in_order (ids some)) ≡ length (ids some)
        → ((n : ℕ) → is_among (ids some) n ≡ true → is_among (ids starts) n ≡ true)
        → AllByRecursion (λ (s : NodeSpec). is_among (in_order (ids starts)) s.id ≡ true) some
    each [] h within = tt
    each (s ∷ some) h within = (here, each some one.others (λ n there. within n (or_right (eqb s.id n) (is_among (ids some) n) there)))
      where
        one : First s.id (ids some)
        one = first s.id (ids some) h

        itself : eqb s.id s.id ≡ true
        itself = eq-eqb s.id s.id refl

        here : is_among (in_order (ids starts)) s.id ≡ true
        here =
            let found : Passing (λ n. eqb s.id n) numbers = passing (λ n. eqb s.id n) numbers one.known in
            let number : s.id ≡ found.element = (Decides-eqb s.id found.element).0 found.passes in
            let among : is_among (ids starts) found.element ≡ true =
            subst (λ n. is_among (ids starts) n ≡ true) number (within s.id (or_left (eqb s.id s.id) (is_among (ids some) s.id) itself)) in
            any_from (λ m. eqb m s.id) found.element (in_order (ids starts))
            (filter-IsIn (is_among (ids starts)) found.element numbers found.there among)
            (eq-eqb found.element s.id (sym number))
