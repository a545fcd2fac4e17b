-- The loops over nodes, replicas and shards, by the rules that they test.
use Rattle.std.proofs.Common.{◌≡◌, ℕ, ◌+◌, ◌^◌, ◌<◌, Bool, true, false, not, ◌||◌, eqb, List, [], ◌∷◌, ◌++◌, length, get_or, take, drop, map, Option, Some, None, nat_lt, slice_get, refl, sym, ap, ◌∙◌, arith, add-one, inl, inr, IsTrue}
use Rattle.std.proofs.lemmas.List.{take-map, take_more, map-append}
use Rattle.std.specs.Option.{option_and_then}
use Rattle.std.proofs.lemmas.Option.{slice_get-get_or}
use Rattle.std.proofs.lemmas.Bool.{cases_lt, true≢false, lt-ltb}
use Rattle.acc_base.specs.Faults.{◌then◌, must, each}
use Rattle.acc_base.proofs.Faults.{each_fails}
use Rattle.acc_topology.specs.declared.error.TopologyError.{TopologyError}
use Rattle.acc_topology.specs.declared.error.TopologyError.TheVariants.{Wrong, OutOfMemory}
use Rattle.acc_topology.specs.declared.error.TopologyKind.TheVariants.{Replicas}
use Rattle.acc_topology.specs.declared.given.NodeSpec.{NodeSpec}
use Rattle.acc_topology.specs.declared.given.ShardSpec.{ShardSpec}
use Rattle.acc_topology.specs.Sets.{in_set, is_among, IsSetOf}
use Rattle.acc_topology.specs.Layout.{Shard, is_replica_count}
use Rattle.acc_topology.specs.Faults.{Fault, ids, ends_well, end_before, replicas_fault, least_electors, electorate_fault, replica_faults, shard_fault, shards_fault, given_shard, IsFault}
use Rattle.acc_topology.proofs.Bits.{in_set_above}

pub in_set-below : (set n : ℕ) → set < 2 ^ 16 → IsTrue (in_set set n) → n < 16
in_set-below set n small has =
    elim (cases_lt n 16) [ inl lt ↦ lt | inr le ↦ absurd (true≢false (sym has ∙ in_set_above set n small le)) ]

or_nothing : (b : Bool) → (b || false) ≡ b
or_nothing true = refl
or_nothing false = refl

or_assoc : (a b c : Bool) → ((a || b) || c) ≡ (a || (b || c))
or_assoc true b c = refl
or_assoc false b c = refl

pub is_among-push : (ns : List ℕ) (x n : ℕ) → is_among (ns ++ x ∷ []) n ≡ (is_among ns n || eqb x n)
is_among-push [] x n = or_nothing (eqb x n)
is_among-push (m ∷ ns) x n = ap (λ b. eqb m n || b) (is_among-push ns x n) ∙ sym (or_assoc (eqb m n) (is_among ns n) (eqb x n))

pub IsSetOf-push : (set set' : ℕ) (ns : List ℕ) (x : ℕ) → IsSetOf set ns → ((n : ℕ) → in_set set' n ≡ (in_set set n || eqb x n)) → IsSetOf set' (ns ++ x ∷ [])
IsSetOf-push set set' ns x before more n = more n ∙ ap (λ b. b || eqb x n) (before n) ∙ sym (is_among-push ns x n)

pub is_new-not_in : (set : ℕ) (ns : List ℕ) (n : ℕ) → IsSetOf set ns → false ≡ in_set set n → not (is_among ns n) ≡ true
is_new-not_in set ns n before lacks = ap not (sym (before n) ∙ sym lacks)

pub ids-more : (nodes : List NodeSpec) (i : ℕ) (d : NodeSpec) → i < length nodes → take (i + 1) (ids nodes) ≡ take i (ids nodes) ++ (get_or nodes i d).id ∷ []
ids-more nodes i d lt =
    take-map (λ n. n.id) (i + 1) nodes ∙ ap (map (λ n. n.id)) (take_more nodes i d lt) ∙ map-append (λ n. n.id) (take i nodes) (get_or nodes i d ∷ [])
    ∙ ap (λ (l : List ℕ). l ++ (get_or nodes i d).id ∷ []) (sym (take-map (λ n. n.id) i nodes))

-- ---- shards

same_error : (fault total : Fault) (e : TopologyError) → ((f : TopologyError) → fault ≡ Some f → total ≡ Some f) → IsFault fault e → IsFault total e
same_error fault total (Wrong kind shard item) so h = so (Wrong kind shard item) h
same_error fault total OutOfMemory so h = tt

-- a fault is one of those that an answer may have
is_fault : (fault : Fault) (e : TopologyError) → fault ≡ Some e → IsFault fault e
is_fault fault (Wrong kind shard item) h = h
is_fault fault OutOfMemory h = tt

-- the fault of an electorate is the first of a shard whose replicas have none
pub electors_fail : (is_node : ℕ → Bool) (replicas place : ℕ) (s : ShardSpec) (e : TopologyError) → is_replica_count (length s.replicas) ≡ true → replicas_fault is_node place s.replicas ≡ None → IsSetOf replicas s.replicas
    → electorate_fault (in_set replicas) (least_electors s) place s.electorate ≡ Some e → IsFault (replica_faults is_node place s) e
electors_fail is_node replicas place s e count none is h =
    let front : (must (is_replica_count (length s.replicas)) (Wrong Replicas place 0) then replicas_fault is_node place s.replicas) ≡ None = ap (λ b. must b (Wrong Replicas place 0) then replicas_fault is_node place s.replicas) count ∙ none in
    let same : electorate_fault (is_among s.replicas) (least_electors s) place s.electorate ≡ Some e = ap (λ (p : ℕ → Bool). electorate_fault p (least_electors s) place s.electorate) (λ i n. sym (is n) i) ∙ h in
    is_fault _ e (ap (λ f. f then electorate_fault (is_among s.replicas) (least_electors s) place s.electorate) front ∙ same)

-- the fault of a shard is the first of all
pub shards_fail : (is_node : ℕ → Bool) (shards : List ShardSpec) (place : ℕ) (s : ShardSpec) (before end : Option (List ℕ)) (e : TopologyError)
    → place < length shards → s ≡ get_or shards place s → true ≡ ends_well (eqb (place + 1) (length shards)) before end → before ≡ end_before shards place → end ≡ s.end
    → each (shard_fault is_node shards) place (drop place shards) ≡ each (shard_fault is_node shards) 0 shards
    → IsFault (replica_faults is_node place s) e → IsFault (shards_fault is_node shards) e
shards_fail is_node shards place s before end e lt at well before-is end-is so_far h =
    let some : nat_lt 0 (length shards) ≡ true = lt-ltb 0 (length shards) (omega arith) in
    let right : ends_well (eqb (place + 1) (length shards)) (end_before shards place) s.end ≡ true = rw (← before-is, ← end-is) (sym well) in
    let here : shard_fault is_node shards place s ≡ replica_faults is_node place s = rw right refl in
    same_error _ _ e (λ f h2. rw some (each_fails (shard_fault is_node shards) shards place s _ f lt (ap (shard_fault is_node shards place) (sym at) ∙ here ∙ h2) so_far)) h

pub shard_holds : (is_node : ℕ → Bool) (shards : List ShardSpec) (place : ℕ) (s : ShardSpec) (before end : Option (List ℕ)) → s ≡ get_or shards place s → true ≡ ends_well (eqb (place + 1) (length shards)) before end → before ≡ end_before shards place → end ≡ s.end
    → replica_faults is_node place s ≡ None → shard_fault is_node shards place (get_or shards place s) ≡ None
shard_holds is_node shards place s before end at well before-is end-is h =
    let right : ends_well (eqb (place + 1) (length shards)) (end_before shards place) s.end ≡ true = rw (← before-is, ← end-is) (sym well) in
    ap (shard_fault is_node shards place) (sym at) ∙ rw right h

pub end_before-next : (shards : List ShardSpec) (place : ℕ) (s : ShardSpec) → place < length shards → s ≡ get_or shards place s → end_before shards (place + 1) ≡ s.end
end_before-next shards place s lt at =
    let next : end_before shards (place + 1) ≡ option_and_then (λ x. x.end) (slice_get shards place) = rw add-one refl in
    next ∙ ap (option_and_then (λ (x : ShardSpec). x.end)) (slice_get-get_or shards place s lt) ∙ ap (λ (x : ShardSpec). x.end) (sym at)

pub shards-more : {S : Type 0} (view : S → Shard) (checked : List S) (shards : List ShardSpec) (place : ℕ) (s : ShardSpec) (x : S) → place < length shards → s ≡ get_or shards place s
    → map view checked ≡ map given_shard (take place shards) → view x ≡ given_shard s → map view (checked ++ x ∷ []) ≡ map given_shard (take (place + 1) shards)
shards-more view checked shards place s x lt at so_far is =
    map-append view checked (x ∷ []) ∙ ap (λ (l : List Shard). l ++ view x ∷ []) so_far ∙ ap (λ (y : Shard). map given_shard (take place shards) ++ y ∷ []) (is ∙ ap given_shard at)
    ∙ sym (map-append given_shard (take place shards) (get_or shards place s ∷ [])) ∙ ap (map given_shard) (sym (take_more shards place s lt))
