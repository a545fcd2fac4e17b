-- Where the messages of a node go, and how many it sends in a step.
use Rattle.std.proofs.Common.{◌≡◌, ℕ, zero, suc, ◌+◌, ◌*◌, ◌≤◌, ◌<◌, ◌%◌, ◌==◌, ◌||◌, Bool, true, false, IsTrue, List, [], ◌∷◌, ◌++◌, length, map, filter, Option, None, Some, is_some, refl, sym, ◌∙◌, ap, subst, arith, ⊎_elim, length-append}
use Rattle.std.specs.List.{AllByRecursion, flat_map, range_with_len}
use Rattle.std.proofs.lemmas.Bool.{true≢false, cond_both, eq-eqb, eqb-true, or_cases, false_from_ne_true}
use Rattle.acc_stamp.specs.declared.stamps.TxnId.{TxnId}
use Rattle.acc_stamp.specs.declared.stamps.Ballot.{Ballot}
use Rattle.acc_stamp.specs.declared.actors.Actor.{Actor}
use Rattle.acc_stamp.specs.Actor.{actor_of, node_of_stamp}
use Rattle.acc_stamp.specs.Stamp.{zero_ballot}
use Rattle.acc_stamp.proofs.Rising.{each_append}
use Rattle.acc_topology.specs.Layout.{Layout, shard_at, HasShard, IsShard, IsLayout, is_replica_count, node_numbers}
use Rattle.acc_topology.specs.Sets.{is_among, numbers}
use Rattle.acc_topology.specs.Keys.{shards_of}
use Rattle.acc_topology.proofs.Counts.{among_part, shard_of_layout}
use Rattle.acc_txn.specs.declared.parts.BodyParts.{BodyParts}
use Rattle.acc_txn.specs.declared.outcome.Outcome.{Outcome}
use Rattle.acc_txn.specs.Uses.{footprint_of}
use Rattle.acc_message.specs.declared.message.Message.{Message}
use Rattle.acc_message.specs.declared.message.Message.TheVariants.{PreAccept, PreAcceptOk, Accept, AcceptOk, Commit, CommitOk, Stable, ReadOk, Apply, Recover, RecoverOk, Nack, Decided, Inform}
use Rattle.acc_message.specs.Fields.{to_of, id_of}
use Rattle.acc_message.specs.Items.{same_actor}
use Rattle.acc_message.specs.Taken.{body_in}
use Rattle.acc_message.specs.Shares.{shards_used, stores_of_shard, stores_used}
use Rattle.acc_message.specs.Attempts.{Attempt}
use Rattle.acc_message.specs.Coordinator.{Reaction, to_all, home_node, inform, reaction, slow_reaction}
use Rattle.acc_message.specs.NodeRules.{Act, Begins, Recovers, Slows, Takes, Restarts, Deed, next_id, next_ballot, attempt_of, emitted_by, on_taking, node_emits}
use Rattle.acc_message.specs.Run.{is_node}
use Rattle.acc_safety.specs.Places.{IsIn}
use Rattle.acc_safety.specs.NodeMoves.{Move, Wait, Propose, CommitTo, DecideBy, FinishWith, BlockBy, EndBy, made}
use Rattle.acc_safety.proofs.PlaceOrder.{IsIn-flat_map, IsIn-map, each_from, any_from}
use Rattle.acc_safety.proofs.Meetings.{used-HasShard}
use Rattle.acc_safety.proofs.NodeMoved.{hears_all, slow_moved}
use Rattle.acc_safety.proofs.DrawFacts.{is_node-node}
use Rattle.acc_run_laws.proofs.Bounded.{IsLow, IsActor, IsAddressed}
use Rattle.acc_run_laws.proofs.StoreBounds.{stamp_actor}

-- ---- nodes and stores of a layout

among : (n : ℕ) (ns : List ℕ) → IsIn n ns → is_among ns n ≡ true
among n ns there = any_from (λ m. m == n) n ns there (eq-eqb n n refl)

range_below : (n first count most : ℕ) → first + count ≤ most → is_among (range_with_len first count) n ≡ true → n < most
range_below n first zero most le h = absurd (true≢false (sym h))
range_below n first (suc count) most le h =
    ⊎_elim (λ same. at n first count most le (eqb-true first n same)) (λ later. range_below n (first + 1) count most (rest first count most le) later)
    (or_cases (first == n) (is_among (range_with_len (first + 1) count) n) h)
  where
    at : (n first count most : ℕ) → first + suc count ≤ most → first ≡ n → n < most
    at n first count most le e = omega (arith, le, e)

    rest : (first count most : ℕ) → first + suc count ≤ most → first + 1 + count ≤ most
    rest first count most le = omega (arith, le)

pub node_low : (layout : Layout) (node : ℕ) → IsLayout layout → is_among layout.nodes node ≡ true → node ≤ 15
node_low layout node valid h =
    below (range_below node 1 15 16 (omega arith) (among_part layout.nodes node_numbers valid.nodes node h))
  where
    below : node < 16 → node ≤ 15
    below lt = omega (arith, lt)

pub node_is_actor : (node : ℕ) → node ≤ 15 → IsActor (actor_of node 0)
node_is_actor node le = record { number = number node le; shard = shard node }
  where
    number : (node : ℕ) → node ≤ 15 → node * 64 + 0 < 1024
    number node le = omega (arith, le)

    shard : (node : ℕ) → (node * 64 + 0) % 64 ≤ 15
    shard node = omega arith

pub record IsStore (a : Actor) : Type 0 where
  pub actor : IsActor a
  pub no_node : is_node a ≡ false

store_at : (node shard : ℕ) → node ≤ 15 → 1 ≤ shard → shard ≤ 15 → IsStore (actor_of node shard)
store_at node shard n least most = record {
  actor = record { number = number node shard n most; shard = of_shard node shard most };
  no_node = false_from_ne_true ((node * 64 + shard) % 64 == 0) (λ e. above node shard least most (eqb-true ((node * 64 + shard) % 64) 0 e));
}
  where
    number : (node shard : ℕ) → node ≤ 15 → shard ≤ 15 → node * 64 + shard < 1024
    number node shard n s = omega (arith, n, s)

    of_shard : (node shard : ℕ) → shard ≤ 15 → (node * 64 + shard) % 64 ≤ 15
    of_shard node shard s = omega (arith, s)

    above : (node shard : ℕ) → 1 ≤ shard → shard ≤ 15 → (node * 64 + shard) % 64 ≡ 0 → ⊥
    above node shard l s e = omega (arith, l, s, e)

few_replicas : (n : ℕ) → IsTrue (is_replica_count n) → n ≤ 7
few_replicas n h =
    ⊎_elim
    (λ three.
    ⊎_elim
    (λ two.
    ⊎_elim (λ one. le n 1 (eqb-true n 1 one) (omega arith)) (λ e. le n 3 (eqb-true n 3 e) (omega arith)) (or_cases (n == 1) (n == 3) two))
    (λ e. le n 5 (eqb-true n 5 e) (omega arith)) (or_cases (n == 1 || n == 3) (n == 5) three))
    (λ e. le n 7 (eqb-true n 7 e) (omega arith)) (or_cases (n == 1 || n == 3 || n == 5) (n == 7) h)
  where
    le : (n m : ℕ) → n ≡ m → m ≤ 7 → n ≤ 7
    le n m e h = omega (arith, e, h)

length_mapped : {X Y : Type 0} (f : X → Y) (xs : List X) → length (map f xs) ≡ length xs
length_mapped f [] = refl
length_mapped f (x ∷ xs) = ap suc (length_mapped f xs)

length_filtered : {X : Type 0} (p : X → Bool) (xs : List X) → length (filter p xs) ≤ length xs
length_filtered p [] = omega arith
length_filtered p (x ∷ xs) =
    let rest = length_filtered p xs in
    cond_both (p x) (x ∷ filter p xs) (filter p xs) (λ ys. length ys ≤ length (x ∷ xs)) (λ _. omega (arith, rest)) (λ _. omega (arith, rest))

few_in_all : {X Y : Type 0} (f : X → List Y) (xs : List X) → AllByRecursion (λ x. length (f x) ≤ 7) xs → length (flat_map f xs) ≤ 7 * length xs
few_in_all f [] h = omega arith
few_in_all f (x ∷ xs) h = let rest = few_in_all f xs h.1 in omega (arith, length-append (f x) (flat_map f xs), h.0, rest)

module _ (layout : Layout) (valid : IsLayout layout) (body : BodyParts) where
  has_shard : (shard : ℕ) → IsIn shard (shards_used layout body) → HasShard layout shard
  has_shard shard there = used-HasShard layout body shard valid (among shard (shards_used layout body) there)

  used_store : (store : Actor) → IsIn store (stores_used layout body) → IsStore store
  used_store store there =
      let s = IsIn-flat_map (stores_of_shard layout) store (shards_used layout body) there in
      let n = IsIn-map (λ node. actor_of node s.source) store (shard_at layout s.source).replicas s.within in
      let has : HasShard layout s.source = has_shard s.source s.there in
      let shard : IsShard layout.nodes (shard_at layout s.source) = shard_of_layout layout s.source valid has in
      subst IsStore (sym n.is)
      (store_at n.source s.source
      (node_low layout n.source valid (among_part (shard_at layout s.source).replicas layout.nodes shard.replicas n.source (among n.source (shard_at layout s.source).replicas n.there)))
      has.0 (low s.source (length layout.shards) has.1 valid.few_shards))
    where
      low : (k n : ℕ) → k ≤ n → n ≤ 15 → k ≤ 15
      low k n p q = omega (arith, p, q)

  few_of_shard : (shard : ℕ) → IsIn shard (shards_used layout body) → length (stores_of_shard layout shard) ≤ 7
  few_of_shard shard there =
      omega (
        arith,
        length_mapped (λ node. actor_of node shard) (shard_at layout shard).replicas,
        few_replicas (length (shard_at layout shard).replicas) (shard_of_layout layout shard valid (has_shard shard there)).count,
      )

  few_shards : length (shards_used layout body) ≤ 16
  unfolding numbers
  few_shards = length_filtered (is_among (shards_of layout (footprint_of body))) numbers

  few_stores : length (stores_used layout body) ≤ 112
  few_stores =
      let all = few_in_all (stores_of_shard layout) (shards_used layout body) (each_from (λ shard. length (stores_of_shard layout shard) ≤ 7) (shards_used layout body) few_of_shard) in
      omega (arith, all, few_shards)

-- ---- what a node sends

module _ (most : ℕ) (begun : List TxnId) (layout : Layout) (valid : IsLayout layout) where
  pub record AreAddressed (out : List Message) : Type 0 where
    pub each : AllByRecursion (IsAddressed most begun) out
    pub few : length out ≤ 113

  none_sent : AreAddressed []
  none_sent = record { each = tt; few = omega arith }

  all_addressed : (body : BodyParts) (message_to : Actor → Message) → ((store : Actor) → to_of (message_to store) ≡ store) → ((store : Actor) → is_some (body_in (message_to store)) ≡ true)
      → AllByRecursion (IsAddressed most begun) (to_all layout body message_to)
  all_addressed body message_to to brings =
      each_from (IsAddressed most begun) (to_all layout body message_to)
      (λ m there.
      let from = IsIn-map message_to m (stores_used layout body) there in
      subst (IsAddressed most begun) (sym from.is)
      (record { to = subst IsActor (sym (to from.source)) (used_store layout valid body from.source from.there).actor; brings = λ _. brings from.source }))

  few_to_all : (body : BodyParts) (message_to : Actor → Message) → length (to_all layout body message_to) ≤ 112
  few_to_all body message_to = omega (arith, length_mapped message_to (stores_used layout body), few_stores layout valid body)

  sent_to_all : (body : BodyParts) (message_to : Actor → Message) → ((store : Actor) → to_of (message_to store) ≡ store) → ((store : Actor) → is_some (body_in (message_to store)) ≡ true)
      → AreAddressed (to_all layout body message_to)
  sent_to_all body message_to to brings =
      let few = few_to_all body message_to in record { each = all_addressed body message_to to brings; few = omega (arith, few) }

  informed : (own : Actor) (x : TxnId) (b : Ballot) (outcome : Outcome) → IsLow most x.0 → AllByRecursion (IsAddressed most begun) (inform own x b outcome) × (length (inform own x b outcome) ≤ 1)
  informed own x b outcome low =
      cond_both (same_actor own (home_node x)) [] (Inform own (home_node x) x b outcome ∷ [])
      (λ out. AllByRecursion (IsAddressed most begun) out × (length out ≤ 1)) (λ _. (tt, omega arith))
      (λ _. ((record { to = stamp_actor most x.0 low; brings = λ store. absurd (true≢false (sym (is_node-node (node_of_stamp x.0)) ∙ store)) }, tt), omega arith))

  made_addressed : (own : Actor) (x : TxnId) (a : Attempt) (move : Move) → IsLow most x.0 → AreAddressed (made layout own x a move).emitted.out
  made_addressed own x a Wait low = none_sent
  made_addressed own x a (Propose s) low = sent_to_all a.body (λ store. Accept own store x a.ballot a.body s.t s.deps) (λ store. refl) (λ store. refl)
  made_addressed own x a (CommitTo s) low = sent_to_all a.body (λ store. Commit own store x a.ballot a.body s.t s.deps) (λ store. refl) (λ store. refl)
  made_addressed own x a (DecideBy path s) low = sent_to_all a.body (λ store. Stable own store x a.ballot a.body s.t s.deps) (λ store. refl) (λ store. refl)
  made_addressed own x a (FinishWith s outcome) low =
      let message_to : Actor → Message = λ store. Apply own store x a.ballot a.body s.t s.deps outcome in
      let told = informed own x a.ballot outcome low in
      let few = few_to_all a.body message_to in
      record {
        each = each_append (IsAddressed most begun) (to_all layout a.body message_to) (inform own x a.ballot outcome) (all_addressed a.body message_to (λ store. refl) (λ store. refl)) told.0;
        few = together (to_all layout a.body message_to) (inform own x a.ballot outcome) few told.1;
      }
    where
      together : (xs ys : List Message) → length xs ≤ 112 → length ys ≤ 1 → length (xs ++ ys) ≤ 113
      together xs ys h k = omega (arith, length-append xs ys, h, k)
  made_addressed own x a (BlockBy by) low = none_sent
  made_addressed own x a (EndBy by) low = none_sent

  -- what an act says of a message or a transaction
  abbrev pub IsKnownAct : Act → Type 0
  IsKnownAct (Begins txn body) = Unit {0}
  IsKnownAct (Recovers x body) = Unit {0}
  IsKnownAct (Slows x) = IsLow most x.0
  IsKnownAct (Takes m) = IsLow most (id_of m).0
  IsKnownAct Restarts = Unit {0}

  module _ (node start : ℕ) (past : List Deed) where
    slow_addressed : (x : TxnId) (o : Option Attempt) → IsLow most x.0 → AreAddressed (emitted_by (slow_reaction layout (actor_of node 0) x) o).out
    slow_addressed x None low = none_sent
    slow_addressed x (Some a) low =
        let m = slow_moved layout (actor_of node 0) x a in
        subst (λ (r : Reaction). AreAddressed r.emitted.out) (sym m.is) (made_addressed (actor_of node 0) x a m.move low)

    message_addressed : (m : Message) (o : Option Attempt) → IsLow most (id_of m).0 → AreAddressed (emitted_by (λ a. reaction layout (actor_of node 0) (id_of m) a m) o).out
    message_addressed m None low = none_sent
    message_addressed m (Some a) low =
        let r = hears_all layout (actor_of node 0) (id_of m) a m in
        subst (λ (q : Reaction). AreAddressed q.emitted.out) (sym r.is) (made_addressed (actor_of node 0) (id_of m) r.moving r.move low)

    taking_addressed : (m : Message) → IsLow most (id_of m).0 → AreAddressed (on_taking layout node start past m).out
    taking_addressed (Inform from to id ballot outcome) low = none_sent
    taking_addressed (PreAccept from to id ballot body) low = message_addressed (PreAccept from to id ballot body) (attempt_of layout node start id past) low
    taking_addressed (PreAcceptOk from to id ballot vote deps) low = message_addressed (PreAcceptOk from to id ballot vote deps) (attempt_of layout node start id past) low
    taking_addressed (Accept from to id ballot body t deps) low = message_addressed (Accept from to id ballot body t deps) (attempt_of layout node start id past) low
    taking_addressed (AcceptOk from to id ballot deps) low = message_addressed (AcceptOk from to id ballot deps) (attempt_of layout node start id past) low
    taking_addressed (Commit from to id ballot body t deps) low = message_addressed (Commit from to id ballot body t deps) (attempt_of layout node start id past) low
    taking_addressed (CommitOk from to id ballot) low = message_addressed (CommitOk from to id ballot) (attempt_of layout node start id past) low
    taking_addressed (Stable from to id ballot body t deps) low = message_addressed (Stable from to id ballot body t deps) (attempt_of layout node start id past) low
    taking_addressed (ReadOk from to id ballot answer) low = message_addressed (ReadOk from to id ballot answer) (attempt_of layout node start id past) low
    taking_addressed (Apply from to id ballot body t deps outcome) low = message_addressed (Apply from to id ballot body t deps outcome) (attempt_of layout node start id past) low
    taking_addressed (Recover from to id ballot body) low = message_addressed (Recover from to id ballot body) (attempt_of layout node start id past) low
    taking_addressed (RecoverOk from to id ballot view) low = message_addressed (RecoverOk from to id ballot view) (attempt_of layout node start id past) low
    taking_addressed (Nack from to id ballot promised) low = message_addressed (Nack from to id ballot promised) (attempt_of layout node start id past) low
    taking_addressed (Decided from to id ballot t deps) low = message_addressed (Decided from to id ballot t deps) (attempt_of layout node start id past) low

    pub node_addressed : (act : Act) → IsKnownAct act → AreAddressed (node_emits layout node start past act).out
    node_addressed (Begins txn body) low = sent_to_all body (λ store. PreAccept (actor_of node 0) store (next_id node start past) zero_ballot body) (λ store. refl) (λ store. refl)
    node_addressed (Recovers x body) low = sent_to_all body (λ store. Recover (actor_of node 0) store x (next_ballot node start past) body) (λ store. refl) (λ store. refl)
    node_addressed (Slows x) low = slow_addressed x (attempt_of layout node start x past) low
    node_addressed (Takes m) low = taking_addressed m low
    node_addressed Restarts low = none_sent
