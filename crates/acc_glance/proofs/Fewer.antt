-- Visits after the last step: each leaves fewer stores to visit, and a look that has none left has ended.
use Rattle.std.proofs.Common.{◌≡◌, ℕ, zero, suc, ◌+◌, ◌-◌, ◌<◌, ◌≤◌, ◌==◌, Bool, true, false, not, ◌&&◌, ◌||◌, cond, List, [], ◌∷◌, ◌++◌, length, map, count_by, find, Option, Some, None, refl, sym, ◌∙◌, ap, subst, arith}
use Rattle.std.specs.Prelude.{nat_le, nat_lt}
use Rattle.std.proofs.lemmas.Bool.Decides.{nat_tests}
use Rattle.std.proofs.lemmas.List.Folds.{list_any-append}
use Rattle.std.proofs.lemmas.List.Sums.{count_by-le-length}
use Rattle.acc_base.specs.Faults.{or_else}
use Rattle.acc_stamp.specs.declared.stamps.TxnId.{TxnId}
use Rattle.acc_topology.specs.Sets.{is_among}
use Rattle.acc_topology.proofs.Bits.{count_by-cons, one_if}
use Rattle.acc_value.specs.declared.key.Key.{Key}
use Rattle.acc_value.specs.declared.value.Value.{Value}
use Rattle.acc_message.specs.Run.{Cluster}
use Rattle.acc_schedule_runs.specs.Situations.{Situation}
use Rattle.acc_glance.specs.declared.looks.Look.{Look}
use Rattle.acc_glance.specs.declared.stages.Course.{Course}
use Rattle.acc_glance.specs.declared.stages.Stage.{Stage}
use Rattle.acc_glance.specs.declared.stages.Stage.TheVariants.{Waiting, Visiting, Read, Open}
use Rattle.acc_glance.specs.Stages.{after_asking, after_reading, asked_at, begun_at, cell_at, first_left, has_asked, has_ended, is_left, is_up, moved, next_to_ask, next_to_read, read_at, shard_for, shown_at, stage_of, unvisited, visited}

-- ---- how many pass two tests

one_le : (a b : Bool) → (a ≡ true → b ≡ true) → one_if a ≤ one_if b
one_le false b h = omega arith
one_le true b h = omega (arith, ap one_if (h refl))

module _ (p q : ℕ → Bool) (less : (n : ℕ) → q n ≡ true → p n ≡ true) where
  count_le : (xs : List ℕ) → count_by q xs ≤ count_by p xs
  count_le [] = omega arith
  count_le (x ∷ xs) = omega (arith, count_by-cons q x xs, count_by-cons p x xs, one_le (q x) (p x) (less x), count_le xs)

  -- the element that another test finds passes the first one alone
  found_fewer : (r : ℕ → Bool) (xs : List ℕ) (n : ℕ) → find r xs ≡ Some n → p n ≡ true → q n ≡ false → count_by q xs < count_by p xs
  found_fewer r [] n some passes fails = absurd cc
  found_fewer r (x ∷ xs) n some passes fails = by (r x) (λ h. found_fewer r xs n h passes fails) some
    where
      by : (b : Bool) → (find r xs ≡ Some n → count_by q xs < count_by p xs) → cond b (Some x) (find r xs) ≡ Some n → count_by q (x ∷ xs) < count_by p (x ∷ xs)
      by true rest h =
          let same : x ≡ n = cc in
          omega (arith, count_by-cons q x xs, count_by-cons p x xs, ap one_if (ap q same ∙ fails), ap one_if (ap p same ∙ passes), count_le xs)
      by false rest h = omega (arith, count_by-cons q x xs, count_by-cons p x xs, one_le (q x) (p x) (less x), rest h)

found_is : (r : ℕ → Bool) (xs : List ℕ) (n : ℕ) → find r xs ≡ Some n → r n ≡ true
found_is r [] n some = absurd cc
found_is r (x ∷ xs) n some = by (r x) refl (λ h. found_is r xs n h) some
  where
    by : (b : Bool) → r x ≡ b → (find r xs ≡ Some n → r n ≡ true) → cond b (Some x) (find r xs) ≡ Some n → r n ≡ true
    by true is rest h = let same : x ≡ n = cc in ap r (sym same) ∙ is
    by false is rest h = rest h

-- ---- nodes that weren't visited

abbrev left_of : List ℕ → List ℕ → ℕ
left_of nodes visited = count_by (λ n. not (is_among visited n)) nodes

among_more : (visited : List ℕ) (n m : ℕ) → is_among (visited ++ n ∷ []) m ≡ (is_among visited m || (n == m || false))
among_more visited n m = list_any-append (λ k. k == m) visited (n ∷ [])

-- the node that is found is one of them, and then one of them no more
visit_fewer : (nodes visited : List ℕ) (r : ℕ → Bool) (n : ℕ) → find r nodes ≡ Some n → ((m : ℕ) → r m ≡ true → is_among visited m ≡ false)
    → left_of nodes (visited ++ n ∷ []) < left_of nodes visited
visit_fewer nodes visited r n some new =
    found_fewer (λ m. not (is_among visited m)) (λ m. not (is_among (visited ++ n ∷ []) m))
    (λ m h. still (is_among visited m) (n == m) (ap not (sym (among_more visited n m)) ∙ h)) r nodes n some
    (ap not (new n (found_is r nodes n some)))
    (ap not (among_more visited n n) ∙ itself (is_among visited n) (n == n) (same n n refl))
  where
    still : (a b : Bool) → not (a || (b || false)) ≡ true → not a ≡ true
    still true b h = h
    still false b h = refl

    itself : (a b : Bool) → b ≡ true → not (a || (b || false)) ≡ false
    itself true b is = refl
    itself false true is = refl
    itself false false is = absurd cc

    same : (a b : ℕ) → a ≡ b → (a == b) ≡ true
    same a b is = grind (arith, nat_tests)

-- ---- how many visits are left to a look

abbrev visits_left : List ℕ → Course → ℕ
visits_left nodes course = left_of nodes course.asked + left_of nodes course.late

-- the look has begun, and fewer visits than these are left to it
abbrev Fewer : List ℕ → ℕ → Stage → Type 0
Fewer nodes bound Waiting = ⊥
Fewer nodes bound (Visiting course) = visits_left nodes course < bound
Fewer nodes bound (Read from to cell) = Unit {0}
Fewer nodes bound (Open from) = Unit {0}

lower : (nodes : List ℕ) (a b : ℕ) → a ≤ b → (stage : Stage) → Fewer nodes a stage → Fewer nodes b stage
lower nodes a b le Waiting h = h
lower nodes a b le (Visiting course) h = omega (arith, le, h)
lower nodes a b le (Read from to cell) h = tt
lower nodes a b le (Open from) h = tt

at_most : (nodes : List ℕ) → length nodes ≤ 16 → (course : Course) → visits_left nodes course ≤ 32
at_most nodes few course =
    omega (arith, few, count_by-le-length (λ n. not (is_among course.asked n)) nodes, count_by-le-length (λ n. not (is_among course.late n)) nodes)

more_after : (a b c : ℕ) → a < b → a + c < b + c
more_after a b c less = omega (arith, less)

more_before : (a b c : ℕ) → a < b → c + a < c + b
more_before a b c less = omega (arith, less)

-- ---- a visit

module _ (cluster : Cluster) (s : Situation) (key : Key) where
  abbrev nodes : List ℕ
  nodes = (shard_for cluster key).replicas

  left_new : (after : ℕ) (visited : List ℕ) (n : ℕ) → is_left cluster s key after visited n ≡ true → is_among visited n ≡ false
  left_new after visited n h = by (nat_lt after n) (is_among visited n) (is_up cluster s key n) h
    where
      by : (a b c : Bool) → (a && (not b && c)) ≡ true → b ≡ false
      by true false c h = refl
      by true true c h = absurd cc
      by false b c h = absurd cc

  first_fewer : (after : ℕ) (visited : List ℕ) (n : ℕ) → first_left cluster s key after visited ≡ Some n → left_of nodes (visited ++ n ∷ []) < left_of nodes visited
  first_fewer after visited n some = visit_fewer nodes visited (is_left cluster s key after visited) n some (left_new after visited)

  next_fewer : (course : Course) (n : ℕ) → next_to_read cluster s key course ≡ Some n → left_of nodes (course.late ++ n ∷ []) < left_of nodes course.late
  next_fewer course n some = by (first_left cluster s key course.last course.late) refl some
    where
      by : (o : Option ℕ) → first_left cluster s key course.last course.late ≡ o → or_else o (first_left cluster s key 0 course.late) ≡ Some n
          → left_of nodes (course.late ++ n ∷ []) < left_of nodes course.late
      by None is h = first_fewer 0 course.late n h
      by (Some m) is h = first_fewer course.last course.late n (is ∙ h)

  asked_fewer : (course : Course) (next : Option ℕ) → next_to_ask cluster s key course ≡ next
      → Fewer nodes (visits_left nodes course) (asked_at cluster s key true course next)
  asked_fewer course None is = tt
  asked_fewer course (Some n) is = more_after _ _ (left_of nodes course.late) (first_fewer 0 course.asked n is)

  read_fewer : (course : Course) (next : Option ℕ) → next_to_read cluster s key course ≡ next
      → Fewer nodes (visits_left nodes course) (read_at cluster s key true course next)
  read_fewer course None is = tt
  read_fewer course (Some n) is = by (cell_at cluster s key course.told n)
    where
      by : (cell : Option (Option Value)) → Fewer nodes (visits_left nodes course) (shown_at s true course n cell)
      by None = more_before _ _ (left_of nodes course.asked) (next_fewer course n is)
      by (Some cell) = tt

  visited_fewer : (course : Course) → Fewer nodes (visits_left nodes course) (visited cluster s key true course)
  visited_fewer course = by (has_asked cluster key course)
    where
      by : (b : Bool) → Fewer nodes (visits_left nodes course)
          (cond b (read_at cluster s key true course (next_to_read cluster s key course)) (asked_at cluster s key true course (next_to_ask cluster s key course)))
      by true = read_fewer course (next_to_read cluster s key course) refl
      by false = asked_fewer course (next_to_ask cluster s key course) refl

  visited_below : (course : Course) (bound : ℕ) → visits_left nodes course ≤ bound → Fewer nodes bound (visited cluster s key true course)
  visited_below course bound le = lower nodes (visits_left nodes course) bound le (visited cluster s key true course) (visited_fewer course)

-- ---- a look begins in the moment with its number

abbrev IsBegun : Stage → Type 0
IsBegun Waiting = ⊥
IsBegun (Visiting course) = Unit {0}
IsBegun (Read from to cell) = Unit {0}
IsBegun (Open from) = Unit {0}

module _ (cluster : Cluster) (s : Situation) (key : Key) (over : Bool) (course : Course) where
  unvisited_begun : (b : Bool) → IsBegun (unvisited b course)
  unvisited_begun true = tt
  unvisited_begun false = tt

  asked_begun : (next : Option ℕ) → IsBegun (asked_at cluster s key over course next)
  asked_begun None = unvisited_begun over
  asked_begun (Some n) = tt

  read_begun : (next : Option ℕ) → IsBegun (read_at cluster s key over course next)
  read_begun None = unvisited_begun over
  read_begun (Some n) = by (cell_at cluster s key course.told n)
    where
      by : (cell : Option (Option Value)) → IsBegun (shown_at s over course n cell)
      by None = tt
      by (Some cell) = tt

  visited_begun : IsBegun (visited cluster s key over course)
  visited_begun = by (has_asked cluster key course)
    where
      by : (b : Bool) → IsBegun
          (cond b (read_at cluster s key over course (next_to_read cluster s key course)) (asked_at cluster s key over course (next_to_ask cluster s key course)))
      by true = read_begun (next_to_read cluster s key course)
      by false = asked_begun (next_to_ask cluster s key course)

module _ (cluster : Cluster) (look : Look) (over : Bool) (number : ℕ) (s : Situation) where
  starts : (stage : Stage) → (number == look.at) ≡ true → IsBegun (moved cluster look over number s stage)
  starts Waiting is =
      subst (λ b. IsBegun (cond b (visited cluster s look.key over (begun_at (length s.own))) Waiting)) (sym is)
      (visited_begun cluster s look.key over (begun_at (length s.own)))
  starts (Visiting course) is = visited_begun cluster s look.key over course
  starts (Read from to cell) is = tt
  starts (Open from) is = tt

  goes_on : (stage : Stage) → IsBegun stage → IsBegun (moved cluster look over number s stage)
  goes_on Waiting has_begun = absurd has_begun
  goes_on (Visiting course) has_begun = visited_begun cluster s look.key over course
  goes_on (Read from to cell) has_begun = tt
  goes_on (Open from) has_begun = tt

apart_below : (a b : ℕ) → (b == a) ≡ false → a < suc b → a < b
apart_below a b apart less = grind (arith, nat_tests)

begun : (cluster : Cluster) (look : Look) (steps : ℕ) (moments : List Situation) → look.at < length moments → IsBegun (stage_of cluster look steps moments)
begun cluster look steps [] less = absurd (omega (arith, less))
begun cluster look steps (s ∷ earlier) less = by (length earlier == look.at) refl (begun cluster look steps earlier)
  where
    by : (b : Bool) → (length earlier == look.at) ≡ b → (look.at < length earlier → IsBegun (stage_of cluster look steps earlier))
        → IsBegun (moved cluster look (nat_le steps (length earlier)) (length earlier) s (stage_of cluster look steps earlier))
    by true is before = starts cluster look (nat_le steps (length earlier)) (length earlier) s (stage_of cluster look steps earlier) is
    by false isnt before =
        goes_on cluster look (nat_le steps (length earlier)) (length earlier) s (stage_of cluster look steps earlier)
        (before (apart_below look.at (length earlier) isnt less))

-- ---- moments after the last step

module _ (cluster : Cluster) (look : Look) (number : ℕ) (s : Situation) (few : length (shard_for cluster look.key).replicas ≤ 16) where
  abbrev ours : List ℕ
  ours = (shard_for cluster look.key).replicas

  any_below : (course : Course) → Fewer ours 32 (visited cluster s look.key true course)
  any_below course = visited_below cluster s look.key course 32 (at_most ours few course)

  first_starts : (stage : Stage) → (number == look.at) ≡ true → Fewer ours 32 (moved cluster look true number s stage)
  first_starts Waiting is =
      subst (λ b. Fewer ours 32 (cond b (visited cluster s look.key true (begun_at (length s.own))) Waiting)) (sym is) (any_below (begun_at (length s.own)))
  first_starts (Visiting course) is = any_below course
  first_starts (Read from to cell) is = tt
  first_starts (Open from) is = tt

  first_goes_on : (stage : Stage) → IsBegun stage → Fewer ours 32 (moved cluster look true number s stage)
  first_goes_on Waiting has_begun = absurd has_begun
  first_goes_on (Visiting course) has_begun = any_below course
  first_goes_on (Read from to cell) has_begun = tt
  first_goes_on (Open from) has_begun = tt

  one_fewer : (bound : ℕ) (stage : Stage) → Fewer ours (suc bound) stage → Fewer ours bound (moved cluster look true number s stage)
  one_fewer bound Waiting h = absurd h
  one_fewer bound (Visiting course) h = visited_below cluster s look.key course bound (omega (arith, h))
  one_fewer bound (Read from to cell) h = tt
  one_fewer bound (Open from) h = tt

module _ (cluster : Cluster) (look : Look) (steps : ℕ) (few : length (shard_for cluster look.key).replicas ≤ 16) (in_time : look.at ≤ steps) where
  past : (count : ℕ) → steps ≤ count → nat_le steps count ≡ true
  past count le = grind (arith, nat_tests)

  first_late : (s : Situation) (earlier : List Situation) → length earlier ≡ steps
      → Fewer (shard_for cluster look.key).replicas 32 (moved cluster look true (length earlier) s (stage_of cluster look steps earlier))
  first_late s earlier is = by (length earlier == look.at) refl
    where
      by : (b : Bool) → (length earlier == look.at) ≡ b
          → Fewer (shard_for cluster look.key).replicas 32 (moved cluster look true (length earlier) s (stage_of cluster look steps earlier))
      by true same = first_starts cluster look (length earlier) s few (stage_of cluster look steps earlier) same
      by false isnt =
          first_goes_on cluster look (length earlier) s few (stage_of cluster look steps earlier)
          (begun cluster look steps earlier (apart_below look.at (length earlier) isnt (omega (arith, is, in_time))))

  late : (k : ℕ) (moments : List Situation) → length moments ≡ steps + suc k → k ≤ 32
      → Fewer (shard_for cluster look.key).replicas (32 - k) (stage_of cluster look steps moments)
  late k [] is low = absurd (omega (arith, is))
  late zero (s ∷ earlier) is low =
      subst (λ b. Fewer (shard_for cluster look.key).replicas 32 (moved cluster look b (length earlier) s (stage_of cluster look steps earlier)))
      (sym (past (length earlier) (omega (arith, is)))) (first_late s earlier (omega (arith, is)))
  late (suc k) (s ∷ earlier) is low =
      let next : 32 - k ≡ suc (32 - suc k) = omega (arith, low) in
      subst (λ b. Fewer (shard_for cluster look.key).replicas (32 - suc k) (moved cluster look b (length earlier) s (stage_of cluster look steps earlier)))
      (sym (past (length earlier) (omega (arith, is))))
      (one_fewer cluster look (length earlier) s few (32 - suc k) (stage_of cluster look steps earlier)
      (subst (λ (n : ℕ). Fewer (shard_for cluster look.key).replicas n (stage_of cluster look steps earlier)) next (late k earlier (omega (arith, is)) (omega (arith, low)))))

  none_left : (nodes : List ℕ) (stage : Stage) → Fewer nodes 0 stage → has_ended stage ≡ true
  none_left nodes Waiting h = absurd h
  none_left nodes (Visiting course) h = absurd (omega (arith, h))
  none_left nodes (Read from to cell) h = refl
  none_left nodes (Open from) h = refl

  -- 33 moments after the last step are enough
  pub ended : (moments : List Situation) → length moments ≡ steps + 33 → has_ended (stage_of cluster look steps moments) ≡ true
  ended moments is = none_left (shard_for cluster look.key).replicas (stage_of cluster look steps moments) (late 32 moments is (omega arith))
