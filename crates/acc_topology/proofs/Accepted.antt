-- Nodes and shards without a fault make a layout.
use Rattle.std.proofs.Common.{◌≡◌, ℕ, zero, suc, ◌+◌, ◌/◌, ◌<◌, ◌≤◌, Bool, true, false, not, eqb, List, [], ◌∷◌, length, take, drop, get_or, map, Option, Some, None, is_none, unwrap_or, refl, sym, ap, subst, ◌∙◌, arith, add-one, inl, inr, IsTrue, All, drop-cons}
use Rattle.std.specs.List.{AllByRecursion}
use Rattle.std.proofs.lemmas.Bool.{eqb-true, eq-eqb, ne_eqb, ltb-true, or_cases, or_left, or_right, leb-true, not-true, false_from_ne_true, and_parts, and_from}
use Rattle.std.proofs.lemmas.List.Elements.{recursion_from_All}
use Rattle.std.proofs.lemmas.List.{take_all, length-drop, length-map}
use Rattle.acc_base.specs.Faults.{◌then◌, each}
use Rattle.acc_base.proofs.Faults.{then_none, must_none, each_from_0}
use Rattle.acc_topology.specs.declared.error.TopologyError.{TopologyError}
use Rattle.acc_topology.specs.declared.error.TopologyError.TheVariants.{Wrong}
use Rattle.acc_topology.specs.declared.error.TopologyKind.TheVariants.{NoNode, NoShard}
use Rattle.acc_topology.specs.declared.given.NodeSpec.{NodeSpec}
use Rattle.acc_topology.specs.declared.given.ShardSpec.{ShardSpec}
use Rattle.acc_topology.specs.Sets.{in_set, is_among, in_order, IsSetOf}
use Rattle.acc_topology.specs.View.{shard_view, layout_view}
use Rattle.acc_topology.specs.declared.shard.Shard.{Shard as MadeShard}
use Rattle.acc_topology.specs.Layout.{IsLayout, IsShard, bytes_lt, is_end_before, ends_rise, is_replica_count}
use Rattle.acc_topology.specs.Faults.{ids, node_fault, nodes_fault, ends_well, end_before, replica_fault, elector_fault, electorate_fault, electors, replica_faults, replicas_fault, shard_fault, shards_fault, fault_of, given_shard, given_layout, IsFault}
use Rattle.acc_topology.proofs.Counts.{replica_count_odd}
use Rattle.acc_topology.proofs.Listed.{AreSmall, in_order-part, in_order-nodes, is_among-in_order, length-in_order-take, members-in_order}
use Rattle.acc_topology.proofs.Rules.{end_before-next}

-- ---- replicas and electors

-- each number of a list passes a test and stands once
record AreOnce (test : ℕ → Bool) (ns : List ℕ) : Type 0 where
  pass : (i : ℕ) → i < length ns → IsTrue (test (get_or ns i 0))
  new : (i : ℕ) → i < length ns → is_among (take i ns) (get_or ns i 0) ≡ false

record AreElectors (replicas electors : List ℕ) : Type 0 where
  enough : length replicas / 2 + 1 ≤ length electors
  once : AreOnce (is_among replicas) electors

-- what the rules say of a shard's replicas and electors
record AreReplicas (is_node : ℕ → Bool) (s : ShardSpec) : Type 0 where
  count : IsTrue (is_replica_count (length s.replicas))
  once : AreOnce is_node s.replicas
  electors : AreElectors s.replicas (electors s)

among_at : (ns : List ℕ) (i : ℕ) → i < length ns → IsTrue (is_among ns (get_or ns i 0))
among_at [] i lt = absurd (omega arith)
among_at (m ∷ ns) zero lt = or_left (eqb m m) _ (eq-eqb m m refl)
among_at (m ∷ ns) (suc i) lt = or_right (eqb m (get_or ns i 0)) _ (among_at ns i (omega arith))

named_electors : (replicas electorate : List ℕ) (place : ℕ) → electorate_fault (is_among replicas) (length replicas / 2 + 1) place (Some electorate) ≡ None → AreElectors replicas electorate
named_electors replicas electorate place e =
    let a = then_none _ _ e in
    let at : (i : ℕ) → i < length electorate → IsTrue (is_among replicas (get_or electorate i 0)) × IsTrue (not (is_among (take i electorate) (get_or electorate i 0))) =
    λ i lt. and_parts _ _ (must_none _ _ (each_from_0 (elector_fault (is_among replicas) place electorate) electorate i 0 a.1 lt)) in
    record {
      enough = leb-true _ _ (must_none _ _ a.0);
      once = record { pass = λ i lt. (at i lt).0; new = λ i lt. not-true _ (at i lt).1 };
    }

are_electors : (is_node : ℕ → Bool) (replicas : List ℕ) (place : ℕ) (named : Option (List ℕ)) → IsTrue (is_replica_count (length replicas)) → AreOnce is_node replicas → electorate_fault (is_among replicas) (length replicas / 2 + 1) place named ≡ None → AreElectors replicas (unwrap_or named replicas)
are_electors is_node replicas place None count once e = record {
  enough = omega (arith, replica_count_odd (length replicas) count);
  once = record { pass = among_at replicas; new = once.new };
}
are_electors is_node replicas place (Some electorate) count once e = named_electors replicas electorate place e

are_once : (is_node : ℕ → Bool) (place : ℕ) (replicas : List ℕ) → replicas_fault is_node place replicas ≡ None → AreOnce is_node replicas
are_once is_node place replicas e =
    let at : (i : ℕ) → i < length replicas → replica_fault is_node place replicas i (get_or replicas i 0) ≡ None = λ i lt. each_from_0 (replica_fault is_node place replicas) replicas i 0 e lt in
    record {
      pass = λ i lt. must_none _ _ (then_none _ _ (at i lt)).0;
      new = λ i lt. not-true _ (must_none _ _ (then_none _ _ (at i lt)).1);
    }

are_replicas : (is_node : ℕ → Bool) (place : ℕ) (s : ShardSpec) → replica_faults is_node place s ≡ None → AreReplicas is_node s
are_replicas is_node place s e =
    let a = then_none _ (electorate_fault (is_among s.replicas) (length s.replicas / 2 + 1) place s.electorate) e in
    let b = then_none _ (replicas_fault is_node place s.replicas) a.0 in
    let count = must_none _ _ b.0 in
    let once = are_once is_node place s.replicas b.1 in
    record { count = count; once = once; electors = are_electors is_node s.replicas place s.electorate count once a.1 }

-- each number of a list stands at some place
record Stands (ns : List ℕ) (n : ℕ) : Type 0 where
  place : ℕ
  within : place < length ns
  here : get_or ns place 0 ≡ n

stands : (ns : List ℕ) (n : ℕ) → IsTrue (is_among ns n) → Stands ns n
stands [] n h = cc
stands (m ∷ ns) n h =
    elim (or_cases (eqb m n) (is_among ns n) h) [
      | inl e ↦ record { place = 0; within = omega arith; here = eqb-true m n e }
      | inr more ↦ let s = stands ns n more in record { place = suc s.place; within = omega (arith, s.within); here = s.here }
    ]

known : (test : ℕ → Bool) (ns : List ℕ) → AreOnce test ns → (n : ℕ) → IsTrue (is_among ns n) → IsTrue (test n)
known test ns are n h =
    let s = stands ns n h in
    subst (λ (k : ℕ). IsTrue (test k)) s.here (are.pass s.place s.within)

-- putting numbers that stand once in order keeps their count
length-once : (test : ℕ → Bool) (ns : List ℕ) → AreOnce test ns → ((n : ℕ) → IsTrue (test n) → n < 16) → length (in_order ns) ≡ length ns
length-once test ns are small =
    let whole : take (length ns) ns ≡ ns = take_all (length ns) ns (omega arith) in
    ap (λ (l : List ℕ). length (in_order l)) (sym whole) ∙ length-in_order-take ns (length ns) (omega arith) (λ i lt. (are.new i lt, small (get_or ns i 0) (are.pass i lt)))

is_shard : (nodes : List ℕ) (s : ShardSpec) → AreSmall nodes → AreReplicas (is_among nodes) s → IsShard (in_order nodes) (given_shard s)
is_shard nodes s small are =
    let within = known (is_among nodes) s.replicas are.once in
    let within_replicas = known (is_among s.replicas) (electors s) are.electors.once in
    let below : AreSmall s.replicas = λ n h. small n (within n h) in
    let long = length-once (is_among nodes) s.replicas are.once small in
    let long_electors = length-once (is_among s.replicas) (electors s) are.electors.once below in
    record {
      count = rw long are.count;
      replicas = in_order-part s.replicas nodes below within;
      electorate = in_order-part (electors s) s.replicas (λ n h. below n (within_replicas n h)) within_replicas;
      enough = omega (arith, long, long_electors, are.electors.enough);
    }

-- ---- ends

-- what the rules say of one end by the one before
last_is_none : (before end : Option (List ℕ)) → IsTrue (ends_well true before end) → IsTrue (is_none end)
last_is_none before None h = refl
last_is_none None (Some end) h = cc
last_is_none (Some before) (Some end) h = cc

next_is_behind : (is_last : Bool) (first before end : Option (List ℕ)) → IsTrue (ends_well false first before) → IsTrue (ends_well is_last before end) → IsTrue (is_end_before before end)
next_is_behind is_last first None end h k = cc
next_is_behind is_last first (Some before) None h k = refl
next_is_behind is_last first (Some before) (Some end) h k = (and_parts (not is_last) (bytes_lt before end) k).1

-- a shard of which the rules hold, and where it stands
record Standing (all : List ShardSpec) (place : ℕ) (s : ShardSpec) (rest : List ShardSpec) : Type 0 where
  within : place < length all
  here : s ≡ get_or all place s
  behind : rest ≡ drop (place + 1) all

standing : (all : List ShardSpec) (place : ℕ) (s : ShardSpec) (rest : List ShardSpec) → s ∷ rest ≡ drop place all → Standing all place s rest
standing all place s rest e =
    let within : place < length all = omega (arith, ap length e, length-drop place all) in
    let both : s ∷ rest ≡ get_or all place s ∷ drop (suc place) all = e ∙ drop-cons all place s within in
    record { within = within; here = cc; behind = rw add-one cc }

ends_hold : (is_node : ℕ → Bool) (all : List ShardSpec) (place : ℕ) (s : ShardSpec) → shard_fault is_node all place s ≡ None → IsTrue (ends_well (eqb (place + 1) (length all)) (end_before all place) s.end)
ends_hold is_node all place s e = must_none _ _ (then_none _ _ e).0

-- the ends of the shards from a place on
ends_from : (is_node : ℕ → Bool) (all rest : List ShardSpec) (place : ℕ) → rest ≡ drop place all → 0 < length rest → each (shard_fault is_node all) place rest ≡ None → IsTrue (ends_rise (map given_shard rest))
ends_from is_node all [] place e some none = absurd (omega arith)
ends_from is_node all (s ∷ []) place e some none =
    let at = standing all place s [] e in
    let h = ends_hold is_node all place s (then_none _ _ none).0 in
    let last : eqb (place + 1) (length all) ≡ true = eq-eqb _ _ (omega (arith, at.within, ap length at.behind, length-drop (place + 1) all)) in
    last_is_none _ s.end (rw last at h)
ends_from is_node all (s ∷ t ∷ rest) place e some none =
    let at = standing all place s (t ∷ rest) e in
    let parts = then_none _ _ none in
    let h = ends_hold is_node all place s parts.0 in
    let k = ends_hold is_node all (place + 1) t (then_none _ _ parts.1).0 in
    let not_last : eqb (place + 1) (length all) ≡ false = ne_eqb _ _ (λ same. omega (arith, ap length at.behind, length-drop (place + 1) all)) in
    let behind : IsTrue (ends_well (eqb (place + 1 + 1) (length all)) s.end t.end) = rw (end_before-next all place s at.within at.here) at k in
    and_from (is_end_before s.end t.end) _ (next_is_behind _ _ s.end t.end (rw not_last at h) behind)
    (ends_from is_node all (t ∷ rest) (place + 1) at.behind (omega arith) parts.1)

-- ---- the whole

each_shard : (is_node : ℕ → Bool) (nodes : List ℕ) (all rest : List ShardSpec) (place : ℕ) → ((s : ShardSpec) → AreReplicas is_node s → IsShard nodes (given_shard s)) → each (shard_fault is_node all) place rest ≡ None → AllByRecursion (IsShard nodes) (map given_shard rest)
each_shard is_node nodes all [] place make none = tt
each_shard is_node nodes all (s ∷ rest) place make none =
    let parts = then_none _ _ none in
    (make s (are_replicas is_node place s (then_none _ _ parts.0).1), each_shard is_node nodes all rest (place + 1) make parts.1)

abbrev IsNodeId : NodeSpec → Type 0
IsNodeId n = (1 ≤ n.id) × (n.id ≤ 15)

small_by : (nodes : List NodeSpec) → AllByRecursion IsNodeId nodes → (n : ℕ) → IsTrue (is_among (ids nodes) n) → (1 ≤ n) × (n ≤ 15)
small_by [] all n h = cc
small_by (m ∷ nodes) all n h =
    elim (or_cases (eqb m.id n) (is_among (ids nodes) n) h) [
      | inl e ↦ subst (λ (k : ℕ). (1 ≤ k) × (k ≤ 15)) (eqb-true m.id n e) all.0
      | inr more ↦ small_by nodes all.1 n more
    ]

some_among : (ns : List ℕ) (n : ℕ) → IsTrue (is_among ns n) → 1 ≤ length ns
some_among [] n h = cc
some_among (m ∷ ns) n h = omega arith

some_in_order : (nodes : List NodeSpec) → AreSmall (ids nodes) → 0 < length nodes → 1 ≤ length (in_order (ids nodes))
some_in_order [] small some = absurd (omega arith)
some_in_order (m ∷ nodes) small some =
    let there : IsTrue (is_among (ids (m ∷ nodes)) m.id) = or_left (eqb m.id m.id) _ (eq-eqb m.id m.id refl) in
    some_among (in_order (ids (m ∷ nodes))) m.id (is_among-in_order (ids (m ∷ nodes)) small m.id ∙ there)

pub given_is_layout : (nodes : List NodeSpec) (shards : List ShardSpec) → All (λ n. (1 ≤ n.id) × (n.id ≤ 15)) nodes → length shards ≤ 15 → fault_of nodes shards ≡ None → IsLayout (given_layout nodes shards)
given_is_layout nodes shards within few none =
    let parts = then_none (nodes_fault nodes) _ none in
    let some_nodes : 0 < length nodes = ltb-true _ _ (must_none _ (Wrong NoNode 0 0) (then_none _ (each (node_fault nodes) 0 nodes) parts.0).0) in
    let shard_parts = then_none _ (each (shard_fault (is_among (ids nodes)) shards) 0 shards) parts.1 in
    let some_shards : 0 < length shards = ltb-true _ _ (must_none _ (Wrong NoShard 0 0) shard_parts.0) in
    let ids_within = small_by nodes (recursion_from_All IsNodeId nodes within) in
    let small : AreSmall (ids nodes) = λ n h. omega (arith, (ids_within n h).1) in
    record {
      some_node = some_in_order nodes small some_nodes;
      nodes = in_order-nodes (ids nodes) small (false_from_ne_true _ (λ h. omega (arith, (ids_within 0 h).0)));
      few_shards = omega (arith, length-map shards given_shard);
      shards = each_shard (is_among (ids nodes)) (in_order (ids nodes)) shards shards 0 (λ s are. is_shard (ids nodes) s small are) shard_parts.1;
      ends = ends_from (is_among (ids nodes)) shards shards 0 refl some_shards shard_parts.1;
    }

-- ---- the topology that is made

same_nodes : (set : ℕ) (nodes : List NodeSpec) (shards : List ShardSpec) → IsSetOf set (ids nodes) → shards_fault (in_set set) shards ≡ shards_fault (is_among (ids nodes)) shards
same_nodes set nodes shards is = ap (λ (p : ℕ → Bool). shards_fault p shards) (λ i n. is n i)

-- a fault of the shards is the first where the nodes have none
pub made_not : (set : ℕ) (nodes : List NodeSpec) (shards : List ShardSpec) (e : TopologyError) → nodes_fault nodes ≡ None → IsSetOf set (ids nodes) → IsFault (shards_fault (in_set set) shards) e → IsFault (fault_of nodes shards) e
made_not set nodes shards e none is h =
    let whole : fault_of nodes shards ≡ shards_fault (in_set set) shards = ap (λ f. f then shards_fault (is_among (ids nodes)) shards) none ∙ sym (same_nodes set nodes shards is) in
    rw whole h

pub made : (set : ℕ) (nodes : List NodeSpec) (shards : List ShardSpec) (checked : List MadeShard) → nodes_fault nodes ≡ None → IsSetOf set (ids nodes) → shards_fault (in_set set) shards ≡ None → map shard_view checked ≡ map given_shard shards
    → (fault_of nodes shards ≡ None) × (layout_view set checked ≡ given_layout nodes shards)
made set nodes shards checked none is shards_none views = (
  ap (λ f. f then shards_fault (is_among (ids nodes)) shards) none ∙ sym (same_nodes set nodes shards is) ∙ shards_none,
  λ i. record { nodes = members-in_order set (ids nodes) is i; shards = views i },
)
