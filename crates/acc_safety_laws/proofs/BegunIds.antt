-- Of a transaction that was begun: its body, a shard that it uses, and that a node drew its id.
use Rattle.std.proofs.Common.{◌≡◌, ℕ, zero, suc, ◌==◌, ◌*◌, Bool, true, false, cond, List, [], ◌∷◌, ◌++◌, length, Option, None, Some, is_none, refl, sym, ◌∙◌, ap, subst, ⊎_elim, arith}
use Rattle.std.specs.List.{list_any, slice_get}
use Rattle.std.proofs.lemmas.Bool.{true≢false, eq-eqb, eqb-true, cases_Bool}
use Rattle.acc_base.specs.Faults.{or_else}
use Rattle.acc_stamp.specs.declared.stamps.TxnId.{TxnId}
use Rattle.acc_stamp.specs.declared.actors.Actor.{Actor}
use Rattle.acc_stamp.specs.Actor.{node_of}
use Rattle.acc_stamp.specs.History.{Draw}
use Rattle.acc_stamp.proofs.History.{draws_are_of_node}
use Rattle.acc_topology.specs.Layout.{Layout, HasShard, IsLayout}
use Rattle.acc_topology.specs.Sets.{is_among}
use Rattle.acc_topology.specs.Keys.{shard_of_key, shards_of}
use Rattle.acc_topology.proofs.Ends.{shard_of-holds}
use Rattle.acc_topology.proofs.Listed.{AreSmall, is_among-in_order}
use Rattle.acc_value.specs.declared.key.Key.{Key}
use Rattle.acc_value.specs.Key.{key_eq}
use Rattle.acc_value.specs.Pairs.{find}
use Rattle.acc_value.proofs.KeyOrder.{key_eq-refl}
use Rattle.acc_txn.specs.declared.parts.BodyParts.{BodyParts}
use Rattle.acc_txn.specs.declared.error.BodyError.{BodyError}
use Rattle.acc_txn.specs.Rules.{IsBody as KeepsRules, has_too_many, has_unbound_name, has_name_twice, has_no_key}
use Rattle.acc_txn.specs.Uses.{read_keys, written_keys, footprint_of, is_read, is_updated}
use Rattle.acc_txn.proofs.UsesFacts.{find-footprint_of}
use Rattle.acc_message.specs.declared.entry.Emitted.{Emitted}
use Rattle.acc_message.specs.declared.note.Note.{Note}
use Rattle.acc_message.specs.declared.note.Note.TheVariants.{Begin as BeginNote}
use Rattle.acc_message.specs.declared.item.Item.{Item}
use Rattle.acc_message.specs.declared.item.Item.TheVariants.{Step, Skipped, Down}
use Rattle.acc_message.specs.Items.{begins, txn_begun, txn_in, txn_of}
use Rattle.acc_message.specs.Shares.{shards_used}
use Rattle.acc_message.specs.NodeRules.{Act, Deed, next_id, clock_events}
use Rattle.acc_message.specs.Run.{Cluster, clock_start, deeds_of, is_node, EachStands}
use Rattle.acc_actor_laws.proofs.Standing.{not_none}
use Rattle.acc_actor_laws.proofs.OpeningFacts.{some_is}
use Rattle.acc_safety.specs.Decisions.{body_at}
use Rattle.acc_safety.specs.Places.{IsIn, First, Later, StandsAt, Here, Back}
use Rattle.acc_safety.specs.Histories.{Noting}
use Rattle.acc_safety.specs.NodeMoves.{NodeNotes, NotesBegin, NotesRecover, NotesDecision, NotesOutcome, NotesReply, NotesTold, NotesBlocked, NotesEnded}
use Rattle.acc_safety.specs.Polls.{IsBody}
use Rattle.acc_safety.specs.Valid.{IsValidCluster}
use Rattle.acc_safety.proofs.PlaceOrder.{any_from, passing, map-IsIn, IsIn-map, IsIn-append_cases, each_at}
use Rattle.acc_safety.proofs.Bridge.{noted_by, each_emits, emits_at}
use Rattle.acc_safety.proofs.BodiesBegun.{begins_is, begin_body}
use Rattle.acc_safety.proofs.NodeSent.{node_notes}

-- ---- a body that keeps its rules uses a key

refused_not : (b : Bool) (e : BodyError) (rest : Option BodyError) → is_none (cond b (Some e) rest) ≡ true → (b ≡ false) × (is_none rest ≡ true)
refused_not true e rest h = absurd (true≢false (sym h))
refused_not false e rest h = (refl, h)

has_key : (parts : BodyParts) → KeepsRules parts → has_no_key parts ≡ false
has_key parts h =
    let first = refused_not (has_too_many parts) _ _ h in
    let second = refused_not (has_unbound_name parts) _ _ first.1 in
    let third = refused_not (has_name_twice parts.lets) _ _ second.1 in
    (refused_not (has_no_key parts) _ _ third.1).0

some_key : (keys : List Key) → (length keys == 0) ≡ false → (q : Key) × IsIn q keys
some_key [] h = absurd (true≢false h)
some_key (q ∷ keys) h = (q, First q keys)

footprint_by : (parts : BodyParts) (q : Key) (uses : List (Key × Bool)) → footprint_of parts ≡ uses
    → find uses q ≡ cond (is_updated parts q) (Some true) (cond (is_read parts q) (Some false) None)
    → IsIn q (read_keys parts ++ written_keys parts) → (p : Key × Bool) × IsIn p uses
footprint_by parts q (p ∷ uses) is e there = (p, First p uses)
footprint_by parts q [] is e there =
    ⊎_elim
    (λ reads.
    absurd (by_read (any_from (key_eq q) q (read_keys parts) reads (key_eq-refl q))))
    (λ writes.
    absurd (not_none true (e ∙ ap (λ b. cond b (Some true) (cond (is_read parts q) (Some false) None)) (any_from (key_eq q) q (written_keys parts) writes (key_eq-refl q)))))
    (IsIn-append_cases q (read_keys parts) (written_keys parts) there)
  where
    some_bool : (b : Bool) → None ≡ cond b (Some true) (Some false) → ⊥
    some_bool true k = not_none true k
    some_bool false k = not_none false k

    by_read : is_read parts q ≡ true → ⊥
    by_read reads = some_bool (is_updated parts q) (e ∙ ap (λ r. cond (is_updated parts q) (Some true) (cond r (Some false) None)) reads)

footprint_some : (parts : BodyParts) → KeepsRules parts → (p : Key × Bool) × IsIn p (footprint_of parts)
footprint_some parts h =
    let q = some_key (read_keys parts ++ written_keys parts) (has_key parts h) in
    footprint_by parts q.0 (footprint_of parts) refl (find-footprint_of parts q.0) q.1

shards_small : (layout : Layout) (uses : List (Key × Bool)) → IsLayout layout → AreSmall (shards_of layout uses)
shards_small layout uses is n h =
    let p = passing (λ m. m == n) (shards_of layout uses) h in
    let from = IsIn-map (λ (item : Key × Bool). shard_of_key layout item.0) p.element uses p.there in
    let has : HasShard layout n = subst (HasShard layout) (sym from.is ∙ eqb-true p.element n p.passes) (shard_of-holds layout from.source.0.key is.ends).exists in
    omega (arith, has.1, is.few_shards)

pub uses_some : (layout : Layout) (parts : BodyParts) → IsLayout layout → KeepsRules parts → (shard : ℕ) × (is_among (shards_used layout parts) shard ≡ true)
uses_some layout parts is h =
    let p = footprint_some parts h in
    let shard : ℕ = shard_of_key layout p.0.0 in (
      shard,
      is_among-in_order (shards_of layout (footprint_of parts)) (shards_small layout (footprint_of parts) is) shard
          ∙ any_from (λ m. m == shard) shard (shards_of layout (footprint_of parts))
          (map-IsIn (λ (item : Key × Bool). shard_of_key layout item.0) p.0 (footprint_of parts) p.1) (eq-eqb shard shard refl),
    )

-- a begun body is one of the cluster's
get-IsIn : (bodies : List BodyParts) (txn : ℕ) (body : BodyParts) → slice_get bodies txn ≡ Some body → IsIn body bodies
get-IsIn [] txn body e = absurd (not_none body e)
get-IsIn (first ∷ bodies) zero body e = subst (λ k. IsIn k (first ∷ bodies)) (some_is first body e) (First first bodies)
get-IsIn (first ∷ bodies) (suc txn) body e = Later body first bodies (get-IsIn bodies txn body e)

body_by : (cluster : Cluster) (o : Option ℕ) (body : BodyParts) → body_at cluster o ≡ Some body → IsIn body cluster.bodies
body_by cluster None body e = absurd (not_none body e)
body_by cluster (Some txn) body e = get-IsIn cluster.bodies txn body e

pub body_keeps : (cluster : Cluster) (items : List Item) (x : TxnId) (body : BodyParts) → IsValidCluster cluster → IsBody cluster items x body → KeepsRules body
body_keeps cluster items x body valid is = each_at KeepsRules body cluster.bodies valid.bodies (body_by cluster (txn_of items x) body is)

-- ---- a begun transaction was noted

noting_later : (item : Item) (earlier : List Item) (note : Note) → Noting earlier note → Noting (item ∷ earlier) note
noting_later item earlier note n = record { entry = n.entry; earlier = n.earlier; at = Back (Step n.entry) item n.earlier earlier n.at; noted = n.noted }

txn_noted : (x : TxnId) (item : Item) (earlier : List Item) (txn : ℕ) → txn_in x item ≡ Some txn → Noting (item ∷ earlier) (BeginNote x)
txn_noted x (Skipped step cause) earlier txn e = absurd (not_none txn e)
txn_noted x (Down actor) earlier txn e = absurd (not_none txn e)
txn_noted x (Step e) earlier txn is =
    ⊎_elim
    (λ here.
    let p = passing (begins x) e.emitted.notes here in
    record { entry = e; earlier = earlier; at = Here (Step e) earlier; noted = subst (λ n. IsIn n e.emitted.notes) (begins_is x p.element p.passes) p.there })
    (λ not_here. absurd (not_none txn (sym (ap (λ c. cond c (txn_begun e.event) None) not_here) ∙ is)))
    (cases_Bool (list_any (begins x) e.emitted.notes))

noted_by_txn : (x : TxnId) (items : List Item) (txn : ℕ) → txn_of items x ≡ Some txn → Noting items (BeginNote x)
noted_by_txn x [] txn e = absurd (not_none txn e)
noted_by_txn x (item ∷ earlier) txn e = by (txn_of earlier x) refl e (noted_by_txn x earlier)
  where
    by : (o : Option ℕ) → txn_of earlier x ≡ o → or_else o (txn_in x item) ≡ Some txn
        → ((n : ℕ) → txn_of earlier x ≡ Some n → Noting earlier (BeginNote x)) → Noting (item ∷ earlier) (BeginNote x)
    by None was is rest = txn_noted x item earlier txn is
    by (Some n) was is rest = noting_later item earlier (BeginNote x) (rest n was)

pub begin_noted : (cluster : Cluster) (items : List Item) (x : TxnId) (body : BodyParts) → IsBody cluster items x body → Noting items (BeginNote x)
begin_noted cluster items x body is = by (txn_of items x) refl is
  where
    by : (o : Option ℕ) → txn_of items x ≡ o → body_at cluster o ≡ Some body → Noting items (BeginNote x)
    by None was e = absurd (not_none body e)
    by (Some txn) was e = noted_by_txn x items txn was

-- ---- its begin

pub record BegunBy (cluster : Cluster) (items : List Item) (x : TxnId) : Type 0 where
  pub node : ℕ
  pub origin : x.0.origin ≡ node * 64
  pub body : BodyParts
  pub is : IsBody cluster items x body

begun_by : (cluster : Cluster) (items : List Item) (h : EachStands cluster items) (a : Actor) (node : is_node a ≡ true) (deed : Deed) (past : List Deed) (x : TxnId) (act : Act) (note : Note)
    → StandsAt deed past (deeds_of cluster a items) → deed.act ≡ act → note ≡ BeginNote x
    → NodeNotes cluster.layout (node_of a) (clock_start cluster.starts (node_of a)) past act note → BegunBy cluster items x
begun_by cluster items h a node deed past x act note at act_is is (NotesBegin txn body) =
    let same : next_id (node_of a) (clock_start cluster.starts (node_of a)) past ≡ x = one (next_id (node_of a) (clock_start cluster.starts (node_of a)) past) is in
    record {
      node = node_of a;
      origin = ap (λ (z : TxnId). z.0.origin) (sym same) ∙ (draws_are_of_node (node_of a) (clock_start cluster.starts (node_of a)) (Draw ∷ clock_events past)).0;
      body = body;
      is = subst (λ z. IsBody cluster items z body) same (begin_body cluster items h a node deed past txn body at act_is);
    }
  where
    one : (z : TxnId) → BeginNote z ≡ BeginNote x → z ≡ x
    one z e = cc
begun_by cluster items h a node deed past x act note at act_is is (NotesRecover y body) = absurd (grind arith)
begun_by cluster items h a node deed past x act note at act_is is (NotesDecision on y at' path s r) = absurd (grind arith)
begun_by cluster items h a node deed past x act note at act_is is (NotesOutcome on y at' s outcome r) = absurd (grind arith)
begun_by cluster items h a node deed past x act note at act_is is (NotesReply on y at' s outcome r o) = absurd (grind arith)
begun_by cluster items h a node deed past x act note at act_is is (NotesTold from to y b outcome o) = absurd (grind arith)
begun_by cluster items h a node deed past x act note at act_is is (NotesBlocked on y at' by r) = absurd (grind arith)
begun_by cluster items h a node deed past x act note at act_is is (NotesEnded on y at' by r) = absurd (grind arith)

pub was_begun : (cluster : Cluster) (items : List Item) (x : TxnId) → EachStands cluster items → Noting items (BeginNote x) → BegunBy cluster items x
was_begun cluster items x h noting =
    let n = noted_by cluster items (BeginNote x) h noting in
    begun_by cluster items h n.actor n.is_node n.deed n.past x n.deed.act (BeginNote x) n.at refl refl
    (node_notes cluster.layout (node_of n.actor) (clock_start cluster.starts (node_of n.actor)) n.past n.deed.act (BeginNote x)
    (subst (λ (m : Emitted). IsIn (BeginNote x) m.notes)
    (emits_at cluster.layout (node_of n.actor) (clock_start cluster.starts (node_of n.actor)) (deeds_of cluster n.actor items) n.deed n.past (each_emits cluster n.actor items h n.is_node) n.at)
    n.noted))
