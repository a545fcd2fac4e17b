-- A round of a transaction isn't blocked where each older one was stable at its stores before: no view of the round waits.
use Rattle.std.proofs.Common.{◌≡◌, true, false, List, [], ◌∷◌, ◌++◌, Some, refl, sym, ◌∙◌, ap, subst}
use Rattle.std.specs.Prelude.{is_none}
use Rattle.std.proofs.lemmas.Bool.{true≢false, and_parts, false_from_ne_true}
use Rattle.acc_stamp.specs.declared.stamps.TxnId.{TxnId}
use Rattle.acc_stamp.specs.declared.stamps.Ballot.{Ballot}
use Rattle.acc_stamp.specs.Actor.{actor_of, shard_of}
use Rattle.acc_stamp.specs.Stamp.{id_lt}
use Rattle.acc_topology.specs.Layout.{shard_at}
use Rattle.acc_deps.specs.declared.records.Settled.{Settled}
use Rattle.acc_message.specs.declared.entry.Entry.{Entry}
use Rattle.acc_message.specs.declared.item.Item.{Item}
use Rattle.acc_message.specs.declared.item.Item.TheVariants.{Step}
use Rattle.acc_message.specs.Fields.{id_of, ballot_of}
use Rattle.acc_message.specs.Shares.{shards_used, stores_of_shard, stores_used}
use Rattle.acc_message.specs.Taken.{Taken, body_in}
use Rattle.acc_message.specs.BallotRules.{accepted_of, stable_of}
use Rattle.acc_message.specs.Evidence.{accepted_above}
use Rattle.acc_message.specs.Run.{Cluster, deeds_of, taken_from, taken_of}
use Rattle.acc_actor_laws.proofs.OpeningOrder.{stable_stays}
use Rattle.acc_safety.specs.Places.{IsIn, IsPast, Whole, Behind}
use Rattle.acc_safety.specs.Valid.{IsStanding}
use Rattle.acc_safety.proofs.PlaceOrder.{flat_map-IsIn, map-IsIn, StandsAt-whole, IsPast-trans}
use Rattle.acc_safety.proofs.Bridge.{node_step, taking_deed, taken_was_sent, taken_of-past}
use Rattle.acc_safety.proofs.Frame.{past_of}
use Rattle.acc_calm.proofs.AllAnswered.{among_in}
use Rattle.acc_calm.proofs.Undecided.{StorePlace, store_place}
use Rattle.acc_calm.proofs.ZeroBallots.{is_request}
use Rattle.acc_delivered.specs.Rounds.{IsRecover}
use Rattle.acc_delivered.specs.Ends.{is_blocked}
use Rattle.acc_delivered.specs.Laws.{HasWaited, BlockedHaveWaited}
use Rattle.acc_delivered.proofs.Started.{sent_later}
use Rattle.acc_delivered.proofs.AskedStores.{asked_store}
use Rattle.acc_heal_laws.specs.Laws.{WasStable, OfEachBegun, RoundsAreNotBlocked}
use Rattle.acc_safety_laws.proofs.Parts.{body_is_begun}
use Rattle.acc_heal_laws.proofs.StableApplied.{some_of}

-- what is stable stays so
pub stable_still : (past history : List Taken) (x : TxnId) (s : Settled) → IsPast past history → stable_of past x ≡ Some s → stable_of history x ≡ Some s
stable_still past history x s (Whole xs) is = is
stable_still past history x s (Behind step ys xs there) is = stable_stays step xs x s (stable_still ys xs x s there is)

module _ (cluster : Cluster) (base ds : List Item) (e : Entry) (x : TxnId) (b : Ballot) (standing : IsStanding cluster ((ds ++ Step e ∷ []) ++ base))
    (recover : IsRecover e.actor x b e)
    (stable : OfEachBegun ((ds ++ Step e ∷ []) ++ base) (λ y. id_lt y x ≡ true → WasStable cluster base ((ds ++ Step e ∷ []) ++ base) y)) where
  abbrev whole : List Item
  whole = (ds ++ Step e ∷ []) ++ base

  module _ (w : HasWaited cluster whole x b) where
    request : (is_request w.step.message ≡ true) × (id_of w.step.message ≡ x) × (ballot_of w.step.message ≡ b) × (body_in w.step.message ≡ Some w.body)
    request = (ap is_request w.message_is, ap id_of w.message_is, ap ballot_of w.message_is, ap body_in w.message_is)

    -- the store took the Recover after the base
    base_past : IsPast (taken_of cluster w.store base) w.past
    base_past =
        let d = taking_deed (deeds_of cluster w.store whole) w.step w.past w.at in
        let n = node_step cluster w.store whole standing.stands d.deed d.before d.at in
        let was = taken_was_sent cluster w.store whole d.deed d.before w.step.message n d.act_is in
        let since = sent_later cluster base ds e x b standing recover w.step.message request.1 request.2
        (record {
          entry = was.sending.entry;
          earlier = was.sending.earlier;
          at = StandsAt-whole (Step was.sending.entry) was.sending.earlier n.earlier whole was.sending.at (past_of (Step n.entry) n.earlier whole n.at);
          sent = was.sending.sent;
        }) in
        subst (IsPast (taken_of cluster w.store base)) (ap taken_from n.past_is ∙ d.past_is)
        (taken_of-past cluster w.store base n.earlier
        (IsPast-trans base was.sending.earlier n.earlier since (past_of (Step was.sending.entry) was.sending.earlier n.earlier was.sending.at)))

    -- it is a store of the awaited transaction too
    place : StorePlace cluster.layout w.body w.store
    place =
        store_place cluster.layout w.body w.store standing.valid.layout
        (asked_store cluster whole standing.stands w.store w.step w.past w.at request.0 w.body request.3)

    store_of : IsIn w.store (stores_used cluster.layout w.their_body)
    store_of =
        subst (λ k. IsIn k (stores_used cluster.layout w.their_body)) (sym place.is)
        (flat_map-IsIn (stores_of_shard cluster.layout) (actor_of place.node place.shard) place.shard (shards_used cluster.layout w.their_body)
        (subst (λ s. IsIn s (shards_used cluster.layout w.their_body)) place.of_shard (among_in (shard_of w.store) (shards_used cluster.layout w.their_body) w.used))
        (map-IsIn (λ node. actor_of node place.shard) place.node (shard_at cluster.layout place.shard).replicas place.replica))

    never : ⊥
    never =
        let was = some_of (stable_of (taken_of cluster w.store base) w.awaited)
        (stable w.awaited (body_is_begun cluster whole w.awaited w.their_body w.their_body_is) w.older w.their_body w.store w.their_body_is store_of) in
        let now = stable_still (taken_of cluster w.store base) w.past w.awaited was.0 base_past was.1 in
        true≢false
        (sym (and_parts (accepted_above x w.awaited (accepted_of w.past w.awaited)) (is_none (stable_of w.past w.awaited)) w.waits).1 ∙ ap is_none now)

pub rounds_are_not_blocked : (cluster : Cluster) → BlockedHaveWaited cluster → RoundsAreNotBlocked cluster
rounds_are_not_blocked cluster waited a x b base later standing round stable =
    subst (λ l. IsStanding cluster (l ++ base) → OfEachBegun (l ++ base) (λ y. id_lt y x ≡ true → WasStable cluster base (l ++ base) y) → is_blocked x b (l ++ base) ≡ false)
    (sym round.items_are)
    (λ stands was.
    false_from_ne_true (is_blocked x b ((round.deliveries ++ Step round.entry ∷ []) ++ base))
    (λ blocked.
    never cluster base round.deliveries round.entry x b stands
    (record { txn = round.recover.txn; event_is = round.recover.event_is; actor_is = refl; noted = round.recover.noted }) was
    (waited ((round.deliveries ++ Step round.entry ∷ []) ++ base) x b stands blocked)))
    standing stable
