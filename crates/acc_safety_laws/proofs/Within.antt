-- Induction over the prefixes of a run, about the whole run; what was answered, sent and noted in a prefix is so in the whole; and
-- a message to all stores of a body has some receiver.
use Rattle.std.proofs.Common.{◌≡◌, ℕ, zero, suc, ◌-◌, ◌<◌, Bool, true, List, [], ◌∷◌, length, IsTrue, sym, ◌∙◌, subst, arith}
use Rattle.std.specs.Prelude.{◌==◌, slice_index_or}
use Rattle.std.specs.List.{AllByRecursion}
use Rattle.std.proofs.lemmas.Bool.{false≢true, eqb-true}
use Rattle.acc_stamp.specs.declared.stamps.TxnId.{TxnId}
use Rattle.acc_stamp.specs.declared.stamps.Ballot.{Ballot}
use Rattle.acc_stamp.specs.declared.actors.Actor.{Actor}
use Rattle.acc_stamp.specs.Actor.{node_of, actor_of}
use Rattle.acc_topology.specs.Layout.{Layout, Shard, IsLayout, IsShard, HasShard, no_shard, shard_at, is_replica_count}
use Rattle.acc_topology.specs.Sets.{is_among}
use Rattle.acc_txn.specs.declared.parts.BodyParts.{BodyParts}
use Rattle.acc_message.specs.declared.message.Message.{Message}
use Rattle.acc_message.specs.declared.entry.Emitted.{Emitted}
use Rattle.acc_message.specs.declared.item.Item.{Item}
use Rattle.acc_message.specs.Fields.{from_of}
use Rattle.acc_message.specs.Shares.{shards_used, stores_of_shard, stores_used}
use Rattle.acc_message.specs.NodeRules.{Deed}
use Rattle.acc_message.specs.Run.{Cluster, clock_start, deeds_of, taken_of, is_node, EachStands}
use Rattle.acc_safety.specs.Places.{IsIn, First, IsPast, Whole, Behind}
use Rattle.acc_safety.specs.Histories.{Sending}
use Rattle.acc_safety.specs.Polls.{IsBody, AreAnswers}
use Rattle.acc_safety.specs.Valid.{IsValidCluster}
use Rattle.acc_safety.proofs.PlaceOrder.{passing, IsPast-rest, IsPast-trans, StandsAt-whole, map-IsIn, flat_map-IsIn}
use Rattle.acc_safety.proofs.Bridge.{node_step, each_emits, emits_at, taken_of-past}
use Rattle.acc_safety.proofs.Meetings.{used-HasShard}
use Rattle.acc_safety.proofs.Prefixes.{IsBefore, IsBefore-past, SentBefore}
use Rattle.acc_safety_laws.proofs.BegunIds.{uses_some, body_keeps}
use Rattle.acc_safety_laws.proofs.Phased.{SentToAll}

-- ---- induction over prefixes

module _ (cluster : Cluster) (all : List Item) (P : Message → Type 0)
    (step : (items : List Item) → EachStands cluster items → IsPast items all → ((m : Message) → SentBefore items m → P m) → (m : Message) → Sending items m → P m) where
  no_sending : (m : Message) → Sending [] m → P m
  no_sending m s = elim s.at [ ]

  of_past : (items : List Item) → EachStands cluster items → IsPast items all → (past : List Item) → IsPast past items → (m : Message) → Sending past m → P m
  of_past [] h within past (Whole xs) m s = no_sending m s
  of_past (item ∷ rest) h within past (Whole xs) m s =
      step (item ∷ rest) h within (λ n b. of_past rest h.1 (IsPast-rest item rest all within) b.past b.before n b.sending) m s
  of_past (item ∷ rest) h within past (Behind y ys xs there) m s = of_past rest h.1 (IsPast-rest item rest all within) ys there m s

  -- what holds of a message where it holds of all that was sent before holds of each
  pub each_within : EachStands cluster all → (m : Message) → Sending all m → P m
  each_within h m s = of_past all h (Whole all) all (Whole all) m s

-- what is before something that is before is before
pub IsBefore-trans : (past middle items : List Item) → IsBefore past middle → IsBefore middle items → IsBefore past items
IsBefore-trans past middle [] h k = k
IsBefore-trans past middle (item ∷ rest) h k = IsPast-trans past middle rest (IsBefore-past past middle h) k

pub sent_before_trans : (past items : List Item) (m : Message) → SentBefore past m → IsBefore past items → SentBefore items m
sent_before_trans past items m s k = record { past = s.past; before = IsBefore-trans s.past past items s.before k; sending = s.sending }

-- ---- from a prefix to the whole

pub AreAnswers-past : (cluster : Cluster) (past items : List Item) (x : TxnId) (body : BodyParts) (b : Ballot) (kind : Message → Bool) (answers : List Message)
    → IsPast past items → AreAnswers cluster past x body b kind answers → AreAnswers cluster items x body b kind answers
AreAnswers-past cluster past items x body b kind answers within are m there =
    let a = are m there in
    record {
      is = a.is;
      about = a.about;
      of_ballot = a.of_ballot;
      of_store = a.of_store;
      place =
          record {
            is_store = a.place.is_store;
            step = a.place.step;
            past = a.place.past;
            at =
                StandsAt-whole a.place.step a.place.past (taken_of cluster (from_of m) past) (taken_of cluster (from_of m) items) a.place.at
                (taken_of-past cluster (from_of m) past items within);
            sent = a.place.sent;
          };
    }

-- ---- a begun body has a store

shard_is : (nodes : List ℕ) (shards : List Shard) (i : ℕ) → AllByRecursion (IsShard nodes) shards → i < length shards → IsShard nodes (slice_index_or shards i no_shard)
shard_is nodes [] i each within = absurd (omega arith)
shard_is nodes (s ∷ shards) zero each within = each.0
shard_is nodes (s ∷ shards) (suc i) each within = shard_is nodes shards i each.1 (omega arith)

some_replica : (replicas : List ℕ) → IsTrue (is_replica_count (length replicas)) → (node : ℕ) × IsIn node replicas
some_replica [] count = absurd (false≢true count)
some_replica (n ∷ replicas) count = (n, First n replicas)

some_store : (layout : Layout) (body : BodyParts) (shard : ℕ) → IsLayout layout → is_among (shards_used layout body) shard ≡ true
    → (store : Actor) × IsIn store (stores_used layout body)
some_store layout body shard is among =
    let p = passing (λ m. m == shard) (shards_used layout body) among in
    let has : HasShard layout shard = used-HasShard layout body shard is among in
    let r = some_replica (shard_at layout shard).replicas (shard_is layout.nodes layout.shards (shard - 1) is.shards (omega (arith, has.0, has.1))).count in (
      actor_of r.0 shard,
      flat_map-IsIn (stores_of_shard layout) (actor_of r.0 shard) shard (shards_used layout body)
          (subst (λ n. IsIn n (shards_used layout body)) (eqb-true p.element shard p.passes) p.there)
          (map-IsIn (λ node. actor_of node shard) r.0 (shard_at layout shard).replicas r.1),
    )

pub begun_has_store : (cluster : Cluster) (items : List Item) (x : TxnId) (body : BodyParts) → IsValidCluster cluster → IsBody cluster items x body
    → (store : Actor) × IsIn store (stores_used cluster.layout body)
begun_has_store cluster items x body valid is =
    let used = uses_some cluster.layout body valid.layout (body_keeps cluster items x body valid is) in
    some_store cluster.layout body used.0 valid.layout used.1

-- ---- what a node sent to all stores was sent

pub sent_to_one : (cluster : Cluster) (items : List Item) (h : EachStands cluster items) (a : Actor) → is_node a ≡ true → (past : List Deed) (body : BodyParts)
    (message_to : Actor → Message) (store : Actor) → IsPast past (deeds_of cluster a items)
    → SentToAll cluster.layout (node_of a) (clock_start cluster.starts (node_of a)) past body message_to
    → IsIn store (stores_used cluster.layout body) → Sending items (message_to store)
sent_to_one cluster items h a node past body message_to store within t there =
    let start : ℕ = clock_start cluster.starts (node_of a) in
    let at = StandsAt-whole t.deed t.past past (deeds_of cluster a items) t.at within in
    let n = node_step cluster a items h t.deed t.past at in
    record {
      entry = n.entry;
      earlier = n.earlier;
      at = n.at;
      sent =
          subst (λ (e : Emitted). IsIn (message_to store) e.out)
          (sym (n.emitted_is ∙ emits_at cluster.layout (node_of a) start (deeds_of cluster a items) t.deed t.past (each_emits cluster a items h node) at))
          (t.sends store there);
    }
