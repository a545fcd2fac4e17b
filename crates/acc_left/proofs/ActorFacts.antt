-- The actors of a cluster, listed node by node.
use Rattle.std.proofs.Common.{◌≡◌, ℕ, zero, suc, ◌+◌, Bool, true, false, cond, List, [], ◌∷◌, ◌++◌, map, filter, sym, ◌∙◌, ap, append_assoc, add-one, arith, length}
use Rattle.std.specs.List.{range_with_len, flat_map}
use Rattle.std.proofs.lemmas.List.{map-append, append-nil}
use Rattle.std.proofs.lemmas.List.Elements.{filter-append}
use Rattle.std.proofs.lemmas.Grind.{flat_map-append}
use Rattle.acc_stamp.specs.declared.actors.Actor.{Actor}
use Rattle.acc_stamp.specs.Actor.{actor_of}
use Rattle.acc_topology.specs.Layout.{Layout, shard_at}
use Rattle.acc_topology.specs.Sets.{numbers, in_set, is_among, members}
use Rattle.acc_left.specs.Leaves.{actors_rising, stores_at}

range-more : (from n : ℕ) → range_with_len from (suc n) ≡ range_with_len from n ++ (from + n) ∷ []
range-more from zero = ap (λ (k : ℕ). k ∷ []) (omega arith)
range-more from (suc n) =
    let there : from + 1 + n ≡ from + suc n = omega arith in
    ap (λ rest. from ∷ rest) (range-more (from + 1) n ∙ ap (λ (k : ℕ). range_with_len (from + 1) n ++ k ∷ []) there)

filter-more : (p : ℕ → Bool) (from n k : ℕ) → from + n ≡ k → filter p (range_with_len from (n + 1)) ≡ filter p (range_with_len from n) ++ filter p (k ∷ [])
filter-more p from n k there =
    ap (λ m. filter p (range_with_len from m)) (add-one n) ∙ ap (filter p) (range-more from n ∙ ap (λ (j : ℕ). range_with_len from n ++ j ∷ []) there)
    ∙ filter-append p (range_with_len from n) (k ∷ [])

-- ---- the stores of a node, up to a shard

abbrev pub stores_below : Layout → ℕ → ℕ → List Actor
stores_below layout node place = map (actor_of node) (filter (λ shard. is_among (shard_at layout shard).replicas node) (range_with_len 1 place))

pub store_more : (layout : Layout) (node place shard : ℕ) (before actors : List Actor) → 1 + place ≡ shard → is_among (shard_at layout shard).replicas node ≡ true
    → actors ≡ before ++ stores_below layout node place → actors ++ actor_of node shard ∷ [] ≡ before ++ stores_below layout node (place + 1)
store_more layout node place shard before actors there has are =
    let kept : ℕ → Bool = λ s. is_among (shard_at layout s).replicas node in
    let more : filter kept (range_with_len 1 (place + 1)) ≡ filter kept (range_with_len 1 place) ++ shard ∷ [] =
    filter-more kept 1 place shard there ∙ ap (λ b. filter kept (range_with_len 1 place) ++ cond b (shard ∷ []) []) has in
    ap (λ (l : List Actor). l ++ actor_of node shard ∷ []) are ∙ append_assoc before (stores_below layout node place) (actor_of node shard ∷ [])
    ∙ ap (λ (l : List Actor). before ++ l) (sym (map-append (actor_of node) (filter kept (range_with_len 1 place)) (shard ∷ [])) ∙ ap (map (actor_of node)) (sym more))

pub store_none : (layout : Layout) (node place shard : ℕ) (before actors : List Actor) → 1 + place ≡ shard → is_among (shard_at layout shard).replicas node ≡ false
    → actors ≡ before ++ stores_below layout node place → actors ≡ before ++ stores_below layout node (place + 1)
store_none layout node place shard before actors there has are =
    let kept : ℕ → Bool = λ s. is_among (shard_at layout s).replicas node in
    let same : filter kept (range_with_len 1 (place + 1)) ≡ filter kept (range_with_len 1 place) =
    filter-more kept 1 place shard there ∙ ap (λ b. filter kept (range_with_len 1 place) ++ cond b (shard ∷ []) []) has ∙ append-nil (filter kept (range_with_len 1 place)) in
    are ∙ ap (λ (l : List ℕ). before ++ map (actor_of node) l) (sym same)

pub stores_all : (layout : Layout) (node place : ℕ) (before actors : List Actor) → place ≡ length layout.shards → actors ≡ before ++ stores_below layout node place
    → actors ≡ before ++ stores_at layout node
stores_all layout node place before actors all are = are ∙ ap (λ n. before ++ stores_below layout node n) all

-- ---- the nodes of a set, up to a number

abbrev pub nodes_below : ℕ → ℕ → List ℕ
nodes_below set n = filter (in_set set) (range_with_len 0 n)

abbrev pub at_node : Layout → ℕ → List Actor
at_node layout node = actor_of node 0 ∷ stores_at layout node

abbrev pub actors_below : Layout → ℕ → ℕ → List Actor
actors_below layout set n = flat_map (at_node layout) (nodes_below set n)

pub node_more : (layout : Layout) (set node : ℕ) (actors with_node with_stores : List Actor) → in_set set node ≡ true → actors ≡ actors_below layout set node
    → with_node ≡ actors ++ actor_of node 0 ∷ [] → with_stores ≡ with_node ++ stores_at layout node → with_stores ≡ actors_below layout set (node + 1)
node_more layout set node actors with_node with_stores has are first second =
    let more : nodes_below set (node + 1) ≡ nodes_below set node ++ node ∷ [] =
    filter-more (in_set set) 0 node node (omega arith) ∙ ap (λ b. nodes_below set node ++ cond b (node ∷ []) []) has in
    second ∙ ap (λ (l : List Actor). l ++ stores_at layout node) (first ∙ ap (λ (l : List Actor). l ++ actor_of node 0 ∷ []) are)
    ∙ append_assoc (actors_below layout set node) (actor_of node 0 ∷ []) (stores_at layout node)
    ∙ ap (λ (l : List Actor). actors_below layout set node ++ l) (sym (append-nil (at_node layout node)))
    ∙ sym (flat_map-append (at_node layout) (nodes_below set node) (node ∷ [])) ∙ ap (flat_map (at_node layout)) (sym more)

pub node_none : (layout : Layout) (set node : ℕ) (actors : List Actor) → in_set set node ≡ false → actors ≡ actors_below layout set node → actors ≡ actors_below layout set (node + 1)
node_none layout set node actors has are =
    let same : nodes_below set (node + 1) ≡ nodes_below set node =
    filter-more (in_set set) 0 node node (omega arith) ∙ ap (λ b. nodes_below set node ++ cond b (node ∷ []) []) has ∙ append-nil (nodes_below set node) in
    are ∙ ap (flat_map (at_node layout)) (sym same)

pub nodes_all : (layout : Layout) (set node : ℕ) (actors : List Actor) → node ≡ 16 → members set ≡ layout.nodes → actors ≡ actors_below layout set node → actors ≡ actors_rising layout
unfolding numbers
nodes_all layout set node actors full listed are = are ∙ ap (actors_below layout set) full ∙ ap (flat_map (at_node layout)) listed
