-- Whether the nodes or the shards of a document make no cluster.
use Rattle.std.proofs.Common.{◌≡◌, ℕ, ◌+◌, ◌<◌, ◌≤◌, ◌&&◌, ◌||◌, ◌⊎◌, Bool, true, false, not, eqb, List, [], ◌∷◌, length, take, get_or, Option, Some, None, option_map, unwrap_or, nat_lt, nat_le, refl, sym, ap, subst, ◌∙◌, arith, zero-add, inl, inr}
use Rattle.std.specs.List.{list_any}
use Rattle.std.proofs.lemmas.Bool.{cases_lt, lt-ltb, ne_eqb, not-true, true≢false}
use Rattle.std.proofs.lemmas.List.{take-map}
use Rattle.std.proofs.lemmas.Option.{slice_get-get_or, slice_get_past, slice_get_read}
use Rattle.acc_topology.specs.declared.error.TopologyError.{TopologyError}
use Rattle.acc_topology.specs.declared.error.TopologyError.TheVariants.{Wrong, OutOfMemory}
use Rattle.acc_topology.specs.declared.error.TopologyKind.{TopologyKind}
use Rattle.acc_topology.specs.declared.error.TopologyKind.TheVariants.{NoNode, NoShard, Order, Replicas, Twice, UnknownNode, Electorate}
use Rattle.acc_topology.specs.declared.given.NodeSpec.{NodeSpec}
use Rattle.acc_topology.specs.declared.given.ShardSpec.{ShardSpec}
use Rattle.acc_topology.specs.Layout.{is_replica_count}
use Rattle.acc_topology.specs.Sets.{is_among}
use Rattle.acc_base.specs.Faults.{◌then◌, must, each}
use Rattle.acc_base.proofs.Faults.{then_none, both_none, then_broken, must_none, must_broken, each_from_0, broken}
use Rattle.acc_topology.specs.Faults.{Fault as TopologyFault, ids, is_new, node_fault, nodes_fault, ends_well, end_before, replica_fault, least_electors, elector_fault, electorate_fault, replica_faults, shard_fault, shards_fault, fault_of, IsFault as IsTopologyFault}
use Rattle.acc_schedule.specs.declared.error.PlanError.{PlanError}
use Rattle.acc_schedule.specs.Paths.{Path}
use Rattle.acc_schedule.specs.Faults.{IsFault}
use Rattle.acc_schedule.specs.Cluster.{cluster_fault, node_path, placed, shard_path, stands_twice}
use Rattle.acc_schedule.proofs.FieldFacts.{list_any-map}
use Rattle.acc_schedule.proofs.EachFacts.{behind, before}

abbrev pub none_at : NodeSpec
none_at = record { id = 0; clock = 0 }

twice_within : (nodes : List NodeSpec) (item : ℕ) → item < length nodes → stands_twice nodes item ≡ not (is_new (ids nodes) item (get_or nodes item none_at).id)
twice_within nodes item lt = ap (λ found. unwrap_or (option_map (λ node. not (is_new (ids nodes) item node.id)) found) false) (slice_get-get_or nodes item none_at lt)

-- a node that is refused stands twice
stands : (nodes : List NodeSpec) (kind : TopologyKind) (shard item : ℕ) → each (node_fault nodes) 0 nodes ≡ Some (Wrong kind shard item) → stands_twice nodes item ≡ true
stands nodes kind shard item h =
    let b = broken (node_fault nodes) nodes 0 none_at (Wrong kind shard item) h in
    let here : node_fault nodes b.place (get_or nodes b.place none_at) ≡ Some (Wrong kind shard item) =
    subst (λ (k : ℕ). node_fault nodes k (get_or nodes b.place none_at) ≡ Some (Wrong kind shard item)) (zero-add b.place) b.here in
    let t = must_broken _ (Wrong Twice 0 b.place) (Wrong kind shard item) here in
    let same : b.place ≡ item = let e = t.1 in cc in
    subst (λ (k : ℕ). stands_twice nodes k ≡ true) same (twice_within nodes b.place b.within ∙ ap not t.0)

-- where no node is refused, none stands twice
stands_not : (nodes : List NodeSpec) (item : ℕ) → each (node_fault nodes) 0 nodes ≡ None → stands_twice nodes item ≡ false
stands_not nodes item h =
    elim (cases_lt item (length nodes)) [
      | inl lt ↦ twice_within nodes item lt ∙ ap not (must_none _ (Wrong Twice 0 item) (each_from_0 (node_fault nodes) nodes item none_at h lt))
      | inr past ↦ ap (λ found. unwrap_or (option_map (λ node. not (is_new (ids nodes) item node.id)) found) false) (slice_get_past nodes item past)
    ]

abbrev the_fault : TopologyKind → ℕ → ℕ → TopologyFault
the_fault kind shard item = Some (Wrong kind shard item)

-- the test that tells the nodes from the shards
abbrev nodes_tested : List NodeSpec → ℕ → Bool
nodes_tested nodes item = eqb (length nodes) 0 || stands_twice nodes item

nonempty : (node : NodeSpec) (nodes : List NodeSpec) → nodes_fault (node ∷ nodes) ≡ each (node_fault (node ∷ nodes)) 0 (node ∷ nodes)
nonempty node nodes = ap (λ b. must b (Wrong NoNode 0 0) then each (node_fault (node ∷ nodes)) 0 (node ∷ nodes)) (lt-ltb 0 (length (node ∷ nodes)) (omega arith))

blamed : (nodes : List NodeSpec) (shards : List ShardSpec) (kind : TopologyKind) (shard item : ℕ) → fault_of nodes shards ≡ the_fault kind shard item
    → ((nodes_tested nodes item ≡ true) × (nodes_fault nodes ≡ the_fault kind shard item))
    ⊎ ((nodes_tested nodes item ≡ false) × (nodes_fault nodes ≡ None) × (shards_fault (is_among (ids nodes)) shards ≡ the_fault kind shard item))
blamed [] shards kind shard item h = inl (refl, h)
blamed (node ∷ nodes) shards kind shard item h =
    let some : eqb (length (node ∷ nodes)) 0 ≡ false = ne_eqb _ _ (λ e. absurd (omega arith)) in
    elim (then_broken (nodes_fault (node ∷ nodes)) (shards_fault (is_among (ids (node ∷ nodes))) shards) (Wrong kind shard item) h) [
      | inl here ↦ inl (ap (λ b. b || stands_twice (node ∷ nodes) item) some ∙ stands (node ∷ nodes) kind shard item (sym (nonempty node nodes) ∙ here), here)
      | inr later ↦ inr (ap (λ b. b || stands_twice (node ∷ nodes) item) some ∙ stands_not (node ∷ nodes) item (sym (nonempty node nodes) ∙ later.0), later.0, later.1)
    ]

-- the fault of the nodes, at its place
nodes_blamed : (nodes : List NodeSpec) (shards : List ShardSpec) (kind : TopologyKind) (shard item : ℕ) (e : PlanError) → nodes_fault nodes ≡ the_fault kind shard item
    → IsFault (placed node_path (the_fault kind shard item)) e → IsFault (cluster_fault nodes shards) e
nodes_blamed nodes shards kind shard item e is h =
    before (placed node_path (nodes_fault nodes)) (placed shard_path (shards_fault (is_among (ids nodes)) shards)) e (subst (λ (f : TopologyFault). IsFault (placed node_path f) e) (sym is) h)

shards_blamed : (nodes : List NodeSpec) (shards : List ShardSpec) (kind : TopologyKind) (shard item : ℕ) (e : PlanError) → nodes_fault nodes ≡ None
    → shards_fault (is_among (ids nodes)) shards ≡ the_fault kind shard item → IsFault (placed shard_path (the_fault kind shard item)) e → IsFault (cluster_fault nodes shards) e
shards_blamed nodes shards kind shard item e none is h =
    behind (placed node_path (nodes_fault nodes)) (placed shard_path (shards_fault (is_among (ids nodes)) shards)) e (ap (placed node_path) none)
    (subst (λ (f : TopologyFault). IsFault (placed shard_path f) e) (sym is) h)

-- where the test says so, the fault is that of the nodes, and else that of the shards
pub placed_at_nodes : (nodes : List NodeSpec) (shards : List ShardSpec) (kind : TopologyKind) (shard item : ℕ) (e : PlanError) → fault_of nodes shards ≡ the_fault kind shard item
    → true ≡ nodes_tested nodes item → IsFault (placed node_path (the_fault kind shard item)) e → IsFault (cluster_fault nodes shards) e
placed_at_nodes nodes shards kind shard item e is test h =
    elim (blamed nodes shards kind shard item is) [
      | inl ours ↦ nodes_blamed nodes shards kind shard item e ours.1 h
      | inr theirs ↦ absurd (true≢false (test ∙ theirs.0))
    ]

pub placed_at_shards : (nodes : List NodeSpec) (shards : List ShardSpec) (kind : TopologyKind) (shard item : ℕ) (e : PlanError) → fault_of nodes shards ≡ the_fault kind shard item
    → false ≡ nodes_tested nodes item → IsFault (placed shard_path (the_fault kind shard item)) e → IsFault (cluster_fault nodes shards) e
placed_at_shards nodes shards kind shard item e is test h =
    elim (blamed nodes shards kind shard item is) [
      | inl ours ↦ absurd (true≢false (sym (test ∙ ours.0)))
      | inr theirs ↦ shards_blamed nodes shards kind shard item e theirs.1 theirs.2 h
    ]

-- no list is
pub none_blamed : (nodes : List NodeSpec) (shards : List ShardSpec) → fault_of nodes shards ≡ None → cluster_fault nodes shards ≡ None
none_blamed nodes shards h =
    let parts = then_none (nodes_fault nodes) (shards_fault (is_among (ids nodes)) shards) h in
    both_none _ _ (ap (placed node_path) parts.0) (ap (placed shard_path) parts.1)

-- the code's look for the node in front
among_before : (nodes : List NodeSpec) (item : ℕ) (id : ℕ) → list_any (λ node. eqb node.id id) (take item nodes) ≡ not (is_new (ids nodes) item id)
among_before nodes item id =
    sym (list_any-map (λ n. eqb n id) (λ node. node.id) (take item nodes)) ∙ ap (λ ns. is_among ns id) (sym (take-map (λ node. node.id) item nodes))
    ∙ twice_not (is_among (take item (ids nodes)) id)
  where
    twice_not : (b : Bool) → b ≡ not (not b)
    twice_not true = refl
    twice_not false = refl

pub twice_there : (nodes : List NodeSpec) (item : ℕ) (node : NodeSpec) (found : Bool) → found ≡ list_any (λ other. eqb other.id node.id) (take item nodes) → item < length nodes → node ≡ get_or nodes item node
    → found ≡ stands_twice nodes item
twice_there nodes item node found e within at =
    e ∙ among_before nodes item node.id
    ∙ ap (λ o. unwrap_or (option_map (λ (n : NodeSpec). not (is_new (ids nodes) item n.id)) o) false) (sym (slice_get_read nodes (length nodes) item node refl within at))

pub twice_past : (nodes : List NodeSpec) (item : ℕ) → length nodes ≤ item → false ≡ stands_twice nodes item
twice_past nodes item past = ap (λ o. unwrap_or (option_map (λ (n : NodeSpec). not (is_new (ids nodes) item n.id)) o) false) (sym (slice_get_past nodes item past))

-- the topology's answer, by the parts of its error
pub answered : (f : TopologyFault) (error : TopologyError) (kind : TopologyKind) (shard item : ℕ) → IsTopologyFault f error → error ≡ Wrong kind shard item → f ≡ Some (Wrong kind shard item)
answered f error kind shard item h is = subst (IsTopologyFault f) is h

-- ---- nodes and shards without a fault

-- a fault that is of nodes and shards, and not of memory
abbrev OfGiven : TopologyFault → Type 0
OfGiven None = Unit {0}
OfGiven (Some OutOfMemory) = ⊥
OfGiven (Some (Wrong kind shard item)) = Unit {0}

given_must : (test : Bool) (kind : TopologyKind) (shard item : ℕ) → OfGiven (must test (Wrong kind shard item))
given_must true kind shard item = tt
given_must false kind shard item = tt

given_then : (f g : TopologyFault) → OfGiven f → OfGiven g → OfGiven (f then g)
given_then None g a b = b
given_then (Some e) g a b = a

given_each : {A : Type 0} (rule : ℕ → A → TopologyFault) → ((i : ℕ) (x : A) → OfGiven (rule i x)) → (xs : List A) (from : ℕ) → OfGiven (each rule from xs)
given_each rule is [] from = tt
given_each rule is (x ∷ xs) from = given_then (rule from x) (each rule (from + 1) xs) (is from x) (given_each rule is xs (from + 1))

given_nodes : (nodes : List NodeSpec) → OfGiven (nodes_fault nodes)
given_nodes nodes = given_then _ _ (given_must _ NoNode 0 0) (given_each (node_fault nodes) (λ i node. given_must _ Twice 0 i) nodes 0)

given_replica : (is_node : ℕ → Bool) (shard : ℕ) (replicas : List ℕ) (item n : ℕ) → OfGiven (replica_fault is_node shard replicas item n)
given_replica is_node shard replicas item n =
    given_then (must (is_node n) (Wrong UnknownNode shard item)) (must (is_new replicas item n) (Wrong Twice shard item)) (given_must (is_node n) UnknownNode shard item) (given_must (is_new replicas item n) Twice shard item)

given_electorate : (is_replica : ℕ → Bool) (least shard : ℕ) (electorate : Option (List ℕ)) → OfGiven (electorate_fault is_replica least shard electorate)
given_electorate is_replica least shard None = tt
given_electorate is_replica least shard (Some electorate) =
    given_then (must (nat_le least (length electorate)) (Wrong Electorate shard 0)) (each (elector_fault is_replica shard electorate) 0 electorate) (given_must (nat_le least (length electorate)) Electorate shard 0)
    (given_each (elector_fault is_replica shard electorate) (λ item n. given_must (is_replica n && is_new electorate item n) Electorate shard 0) electorate 0)

given_replicas : (is_node : ℕ → Bool) (place : ℕ) (s : ShardSpec) → OfGiven (replica_faults is_node place s)
given_replicas is_node place s =
    let count = is_replica_count (length s.replicas) in
    let electorate = electorate_fault (is_among s.replicas) (least_electors s) place s.electorate in
    given_then (must count (Wrong Replicas place 0) then each (replica_fault is_node place s.replicas) 0 s.replicas) electorate
    (given_then (must count (Wrong Replicas place 0)) (each (replica_fault is_node place s.replicas) 0 s.replicas) (given_must count Replicas place 0)
    (given_each (replica_fault is_node place s.replicas) (given_replica is_node place s.replicas) s.replicas 0))
    (given_electorate (is_among s.replicas) (least_electors s) place s.electorate)

given_shard : (is_node : ℕ → Bool) (shards : List ShardSpec) (place : ℕ) (s : ShardSpec) → OfGiven (shard_fault is_node shards place s)
given_shard is_node shards place s =
    let ends = ends_well (eqb (place + 1) (length shards)) (end_before shards place) s.end in
    given_then (must ends (Wrong Order place 0)) (replica_faults is_node place s) (given_must ends Order place 0) (given_replicas is_node place s)

given_shards : (is_node : ℕ → Bool) (shards : List ShardSpec) → OfGiven (shards_fault is_node shards)
given_shards is_node shards =
    let some = nat_lt 0 (length shards) in
    given_then (must some (Wrong NoShard 0 0)) (each (shard_fault is_node shards) 0 shards) (given_must some NoShard 0 0) (given_each (shard_fault is_node shards) (given_shard is_node shards) shards 0)

placed_none : (path : TopologyKind → ℕ → ℕ → Path) (f : TopologyFault) → OfGiven f → placed path f ≡ None → f ≡ None
placed_none path None g h = refl
placed_none path (Some OutOfMemory) g h = absurd g
placed_none path (Some (Wrong kind shard item)) g h = absurd cc

-- nodes and shards of which each placed fault is none have none
pub no_fault : (nodes : List NodeSpec) (shards : List ShardSpec) → placed node_path (nodes_fault nodes) ≡ None → placed shard_path (shards_fault (is_among (ids nodes)) shards) ≡ None → fault_of nodes shards ≡ None
no_fault nodes shards a b =
    ap (λ f. f then shards_fault (is_among (ids nodes)) shards) (placed_none node_path (nodes_fault nodes) (given_nodes nodes) a)
    ∙ placed_none shard_path (shards_fault (is_among (ids nodes)) shards) (given_shards (is_among (ids nodes)) shards) b

pub nodes_fine : (nodes : List NodeSpec) (shards : List ShardSpec) → fault_of nodes shards ≡ None → nodes_fault nodes ≡ None
nodes_fine nodes shards h = (then_none (nodes_fault nodes) (shards_fault (is_among (ids nodes)) shards) h).0

-- a node that is not refused is new
pub fine_node : (nodes : List NodeSpec) (i : ℕ) → nodes_fault nodes ≡ None → i < length nodes → is_among (take i (ids nodes)) (get_or nodes i none_at).id ≡ false
fine_node nodes i h lt =
    let each_none : each (node_fault nodes) 0 nodes ≡ None = (then_none _ (each (node_fault nodes) 0 nodes) h).1 in
    not-true _ (must_none _ (Wrong Twice 0 i) (each_from_0 (node_fault nodes) nodes i none_at each_none lt))
