-- Where each transaction is stable at its stores, and these take its Apply once all of them have opened it, it is applied at each. By the
-- timestamps: what has the least one that isn't applied waits for nothing.
use Rattle.std.proofs.Common.{◌≡◌, true, false, List, Option, None, Some, is_some, refl, sym, ◌∙◌, ap, subst}
use Rattle.std.proofs.lemmas.Bool.{true≢false, and_from}
use Rattle.acc_stamp.specs.declared.stamps.Stamp.{Stamp}
use Rattle.acc_stamp.specs.declared.stamps.TxnId.{TxnId}
use Rattle.acc_stamp.specs.declared.actors.Actor.{Actor}
use Rattle.acc_stamp.specs.Actor.{actor_of, shard_of}
use Rattle.acc_stamp.specs.Stamp.{stamp_lt}
use Rattle.acc_stamp.specs.Rising.{id_among}
use Rattle.acc_topology.specs.Layout.{shard_at}
use Rattle.acc_deps.specs.declared.records.Settled.{Settled}
use Rattle.acc_deps.specs.Deps.{of_shard}
use Rattle.acc_txn.specs.declared.parts.BodyParts.{BodyParts}
use Rattle.acc_message.specs.declared.item.Item.{Item}
use Rattle.acc_message.specs.Shares.{shards_used, stores_of_shard, stores_used}
use Rattle.acc_message.specs.BallotRules.{stable_of, kept_outcome}
use Rattle.acc_message.specs.Opening.{is_opened}
use Rattle.acc_message.specs.Run.{Cluster, taken_of, is_node}
use Rattle.acc_safety.specs.Places.{IsIn}
use Rattle.acc_safety.specs.Polls.{IsBody}
use Rattle.acc_safety.specs.Valid.{IsStanding}
use Rattle.acc_safety.proofs.PlaceOrder.{flat_map-IsIn, map-IsIn}
use Rattle.acc_safety_laws.proofs.Stages.{one_proposal, one_commit, never_both}
use Rattle.acc_safety_laws.proofs.Last.{committed_last}
use Rattle.acc_safety_laws.proofs.Proposals.{proposals_have_roots}
use Rattle.acc_safety_laws.proofs.Commits.{commits_have_roots}
use Rattle.acc_safety_laws.proofs.Decisions.{decisions_have_roots, records_have_roots}
use Rattle.acc_safety_laws.specs.AgreementPremises.{Premises}
use Rattle.acc_safety_laws.proofs.Agreed.{one_timestamp}
use Rattle.acc_safety_laws.proofs.Parts.{body_is_begun}
use Rattle.acc_calm.proofs.AllAnswered.{among_in}
use Rattle.acc_calm.proofs.Undecided.{StorePlace, store_place}
use Rattle.acc_calm.proofs.Named.{UsesShard, record_named}
use Rattle.acc_calm.proofs.CalmRuns.{by_stamp, opened_from, committed_seen}
use Rattle.acc_heal_laws.specs.Turned.{EachTookApply}
use Rattle.acc_heal_laws.specs.Laws.{IsStableEverywhere, IsAppliedEverywhere, IsOpenedEverywhere, OfEachBegun, StableIsApplied}

pub some_of : {T : Type 0} (o : Option T) → is_some o ≡ true → (t : T) × (o ≡ Some t)
some_of None h = absurd (true≢false (sym h))
some_of (Some t) h = (t, refl)

-- ---- by the timestamps

module _ (cluster : Cluster) (items : List Item) (standing : IsStanding cluster items) (stable : OfEachBegun items (IsStableEverywhere cluster items))
    (finish : OfEachBegun items (λ x. IsOpenedEverywhere cluster items x → EachTookApply cluster items x)) where
  premises : Premises cluster items
  premises = record {
    one_proposal = one_proposal cluster items standing.stands;
    one_commit = one_commit cluster items standing.stands;
    never_both = never_both cluster items standing.stands;
    proposals = proposals_have_roots cluster items standing;
    commits = commits_have_roots cluster items standing;
    decisions = decisions_have_roots cluster items standing;
    records = records_have_roots cluster items standing;
    committed_last = committed_last committed_seen cluster items standing;
  }

  -- the stable records of a transaction have one timestamp
  same_time : (x : TxnId) (body : BodyParts) (a b : Actor) (s r : Settled) → is_node a ≡ false → is_node b ≡ false → IsBody cluster items x body
      → stable_of (taken_of cluster a items) x ≡ Some s → stable_of (taken_of cluster b items) x ≡ Some r → s.t ≡ r.t
  same_time x body a b s r store other body_is is is_too =
      one_timestamp cluster items standing premises x body s.t r.t s.deps r.deps body_is (records_have_roots cluster items standing a x body s store body_is is)
      (records_have_roots cluster items standing b x body r other body_is is_too)

  stable_there : (x : TxnId) (body : BodyParts) → IsBody cluster items x body → (a : Actor) → IsIn a (stores_used cluster.layout body)
      → (s : Settled) × (stable_of (taken_of cluster a items) x ≡ Some s)
  stable_there x body is a there = some_of (stable_of (taken_of cluster a items) x) (stable x (body_is_begun cluster items x body is) body a is there)

  -- what is stable at this timestamp at one of its stores is opened there
  IsOpenedAt : Stamp → Type 0
  IsOpenedAt t =
      (x : TxnId) (body : BodyParts) (a : Actor) (mine : Settled) → IsBody cluster items x body → IsIn a (stores_used cluster.layout body)
      → stable_of (taken_of cluster a items) x ≡ Some mine → mine.t ≡ t → is_opened (shard_of a) (taken_of cluster a items) x ≡ true

  store_of : (a : Actor) (body : BodyParts) → StorePlace cluster.layout body a → (y : TxnId) (u : UsesShard cluster items standing (shard_of a) y)
      → IsIn a (stores_used cluster.layout u.body)
  store_of a body place y u =
      subst (λ k. IsIn k (stores_used cluster.layout u.body)) (sym place.is)
      (flat_map-IsIn (stores_of_shard cluster.layout) (actor_of place.node place.shard) place.shard (shards_used cluster.layout u.body)
      (subst (λ s. IsIn s (shards_used cluster.layout u.body)) place.of_shard (among_in (shard_of a) (shards_used cluster.layout u.body) u.used))
      (map-IsIn (λ node. actor_of node place.shard) place.node (shard_at cluster.layout place.shard).replicas place.replica))

  next_opened : (t : Stamp) → ((s : Stamp) → stamp_lt s t ≡ true → IsOpenedAt s) → IsOpenedAt t
  unfolding IsOpenedAt
  next_opened t less x body a mine body_is there is time =
      opened_from (shard_of a) (taken_of cluster a items) x mine is
      (λ y has. let u = uses y has in ap is_some (stable_there y u.body u.is a (store_of a body place y u)).1)
      (λ y theirs has their_is first.
      let u = uses y has in
      finish y (body_is_begun cluster items y u.body u.is)
      (λ parts store parts_is there_too.
      let s = stable_there y parts parts_is store there_too in
      less theirs.t (ap (stamp_lt theirs.t) (sym time) ∙ first) y parts store s.0 parts_is there_too s.1
      (same_time y parts store a s.0 theirs (store_place cluster.layout parts store standing.valid.layout there_too).no_node place.no_node parts_is s.1 their_is))
      u.body a u.is (store_of a body place y u))
      (λ y theirs has their_is first.
      let u = uses y has in
      less theirs.t (ap (stamp_lt theirs.t) (sym time) ∙ first) y u.body a theirs u.is (store_of a body place y u) their_is refl)
    where
      place : StorePlace cluster.layout body a
      place = store_place cluster.layout body a standing.valid.layout there

      uses : (y : TxnId) → id_among y (of_shard mine.deps (shard_of a)) ≡ true → UsesShard cluster items standing (shard_of a) y
      uses y has =
          record_named cluster items standing a x body mine (store_place cluster.layout body a standing.valid.layout there).no_node body_is is (shard_of a) y has

  pub opened_everywhere : (x : TxnId) → IsOpenedEverywhere cluster items x
  unfolding IsOpenedAt
  opened_everywhere x body store body_is there =
      let s = stable_there x body body_is store there in
      by_stamp IsOpenedAt next_opened s.0.t x body store s.0 body_is there s.1 refl

  pub applied_everywhere : OfEachBegun items (IsAppliedEverywhere cluster items)
  applied_everywhere x begun body store body_is there =
      and_from (is_opened (shard_of store) (taken_of cluster store items) x) (is_some (kept_outcome (taken_of cluster store items) x))
      (opened_everywhere x body store body_is there) (finish x begun (opened_everywhere x) body store body_is there)

pub stable_is_applied : (cluster : Cluster) → StableIsApplied cluster
stable_is_applied cluster items standing stable finish = applied_everywhere cluster items standing stable finish
