-- Nodes of a plan by their numbers, and in which order a loop finds them.
use Rattle.std.proofs.Common.{◌≡◌, ℕ, zero, suc, ◌+◌, ◌-◌, ◌<◌, ◌≤◌, ◌==◌, Bool, true, false, cond, IsTrue, List, [], ◌∷◌, ◌++◌, length, take, map, filter, get_or, sym, ◌∙◌, ap, arith, add-one, zero-add, ⊎_elim}
use Rattle.std.specs.List.{range_with_len}
use Rattle.std.proofs.lemmas.Bool.{true≢false, eqb-true, or_cases}
use Rattle.std.proofs.lemmas.List.{append_assoc, append-nil, map-append, take_more, length-take}
use Rattle.std.proofs.lemmas.List.Elements.{filter-append}
use Rattle.acc_stamp.specs.declared.actors.Actor.{Actor}
use Rattle.acc_stamp.specs.Actor.{actor_of}
use Rattle.acc_topology.specs.Layout.{Layout, Shard, IsLayout, node_numbers, no_shard, shard_at}
use Rattle.acc_topology.specs.Sets.{in_set, is_among, members, numbers}
use Rattle.acc_topology.proofs.Counts.{among_part}
use Rattle.acc_schedule.specs.Actors.{stores_from}

-- ---- the members of a set

range-more : (from n : ℕ) → range_with_len from (suc n) ≡ range_with_len from n ++ (from + n) ∷ []
range-more from zero = ap (λ (k : ℕ). k ∷ []) (omega arith)
range-more from (suc n) =
    let there : from + 1 + n ≡ from + suc n = omega arith in
    ap (λ rest. from ∷ rest) (range-more (from + 1) n ∙ ap (λ (k : ℕ). range_with_len (from + 1) n ++ k ∷ []) there)

-- the members of a set that are below a number
abbrev pub members_below : ℕ → ℕ → List ℕ
members_below set n = filter (in_set set) (range_with_len 0 n)

members_below-more : (set n : ℕ) → members_below set (n + 1) ≡ members_below set n ++ filter (in_set set) (n ∷ [])
members_below-more set n =
    rw add-one (ap (filter (in_set set)) (range-more 0 n ∙ ap (λ (k : ℕ). range_with_len 0 n ++ k ∷ []) (zero-add n)) ∙ filter-append (in_set set) (range_with_len 0 n) (n ∷ []))

pub one_more : (set n : ℕ) (b : Bool) → b ≡ true → b ≡ in_set set n → members_below set (n + 1) ≡ members_below set n ++ n ∷ []
one_more set n b within told = members_below-more set n ∙ ap (λ (c : Bool). members_below set n ++ cond c (n ∷ []) []) (sym told ∙ within)

pub no_more : (set n : ℕ) (b : Bool) → b ≡ false → b ≡ in_set set n → members_below set (n + 1) ≡ members_below set n
no_more set n b outside told =
    members_below-more set n ∙ ap (λ (c : Bool). members_below set n ++ cond c (n ∷ []) []) (sym told ∙ outside) ∙ append-nil (members_below set n)

all_below : (set n : ℕ) → n ≡ 16 → members_below set n ≡ members set
unfolding numbers
all_below set n all = ap (members_below set) all

-- what was made of the members so far is made of all of them
pub all_named : {A : Type 0} (named : List ℕ → A) (x : A) (set n : ℕ) (listed nodes : List ℕ) → x ≡ named (members_below set n) → n ≡ 16 → members set ≡ listed → listed ≡ nodes → x ≡ named nodes
all_named named x set n listed nodes so_far all lists is = so_far ∙ ap named (all_below set n all ∙ lists ∙ is)

-- the same for the stores of a shard after others
pub one_more_store : (before : List Actor) (shard set n : ℕ) (b : Bool) → b ≡ true → b ≡ in_set set n
    → before ++ map (λ node. actor_of node shard) (members_below set (n + 1)) ≡ (before ++ map (λ node. actor_of node shard) (members_below set n)) ++ actor_of n shard ∷ []
one_more_store before shard set n b within told =
    let at : ℕ → Actor = λ node. actor_of node shard in
    ap (λ ms. before ++ map at ms) (one_more set n b within told) ∙ ap (λ rest. before ++ rest) (map-append at (members_below set n) (n ∷ []))
    ∙ sym (append_assoc before (map at (members_below set n)) (at n ∷ []))

pub no_more_store : (before : List Actor) (shard set n : ℕ) (b : Bool) → b ≡ false → b ≡ in_set set n
    → before ++ map (λ node. actor_of node shard) (members_below set (n + 1)) ≡ before ++ map (λ node. actor_of node shard) (members_below set n)
no_more_store before shard set n b outside told = ap (λ ms. before ++ map (λ node. actor_of node shard) ms) (no_more set n b outside told)

-- ---- numbers of nodes

range_from : (n first count : ℕ) → is_among (range_with_len first count) n ≡ true → (first ≤ n) × (n < first + count)
range_from n first zero h = absurd (true≢false (sym h))
range_from n first (suc count) h =
    ⊎_elim (λ same. here n first count (eqb-true first n same)) (λ later. there n first count (range_from n (first + 1) count later))
    (or_cases (first == n) (is_among (range_with_len (first + 1) count) n) h)
  where
    here : (n first count : ℕ) → first ≡ n → (first ≤ n) × (n < first + suc count)
    here n first count e = (omega (arith, e), omega (arith, e))

    there : (n first count : ℕ) → (first + 1 ≤ n) × (n < first + 1 + count) → (first ≤ n) × (n < first + suc count)
    there n first count h = (omega (arith, h.0), omega (arith, h.1))

pub node_range : (layout : Layout) (node : ℕ) → IsLayout layout → IsTrue (is_among layout.nodes node) → (1 ≤ node) × (node ≤ 15)
node_range layout node valid h =
    let r = range_from node 1 15 (among_part layout.nodes node_numbers valid.nodes node h) in
    (r.0, low node r.1)
  where
    low : (node : ℕ) → node < 1 + 15 → node ≤ 15
    low node lt = omega (arith, lt)

-- ---- the stores of the first shards

stores_from-append : (n : ℕ) (xs : List Shard) (s : Shard) → stores_from n (xs ++ s ∷ []) ≡ stores_from n xs ++ map (λ node. actor_of node (n + length xs)) s.replicas
stores_from-append n [] s =
    append-nil (map (λ node. actor_of node n) s.replicas) ∙ ap (λ (k : ℕ). map (λ node. actor_of node k) s.replicas) (omega arith)
stores_from-append n (x ∷ xs) s =
    let there : n + 1 + length xs ≡ n + suc (length xs) = omega arith in
    let here = map (λ node. actor_of node n) x.replicas in
    ap (λ rest. here ++ rest) (stores_from-append (n + 1) xs s ∙ ap (λ (k : ℕ). stores_from (n + 1) xs ++ map (λ node. actor_of node k) s.replicas) there)
    ∙ sym (append_assoc here (stores_from (n + 1) xs) (map (λ node. actor_of node (n + suc (length xs))) s.replicas))

abbrev pub stores_to : Layout → ℕ → List Actor
stores_to layout place = stores_from 1 (take place layout.shards)

pub shard_more : (layout : Layout) (place : ℕ) → place < length layout.shards
    → stores_to layout (place + 1) ≡ stores_to layout place ++ map (λ node. actor_of node (place + 1)) (shard_at layout (place + 1)).replicas
shard_more layout place within =
    let s = get_or layout.shards place no_shard in
    let back : place ≡ place + 1 - 1 = omega arith in
    let long : 1 + length (take place layout.shards) ≡ place + 1 = omega (arith, length-take place layout.shards) in
    ap (stores_from 1) (take_more layout.shards place no_shard within) ∙ stores_from-append 1 (take place layout.shards) s
    ∙ (λ i. stores_to layout place ++ map (λ node. actor_of node (long i)) (get_or layout.shards (back i) no_shard).replicas)
