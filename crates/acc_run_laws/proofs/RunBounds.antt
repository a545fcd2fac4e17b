-- Every message of a run is bounded, every stamp that is drawn and every clock is low.
use Rattle.std.proofs.Common.{◌≡◌, ℕ, zero, suc, ◌≤◌, ◌<◌, ◌/◌, ◌==◌, IsTrue, List, [], ◌∷◌, Option, None, Some, refl, sym, subst, arith, ⊎_elim, inl, inr, ◌⊎◌}
use Rattle.std.specs.List.{AllByRecursion, flat_map, slice_get}
use Rattle.std.specs.Option.{option_map}
use Rattle.std.proofs.lemmas.Bool.{true≢false, cond_both}
use Rattle.acc_stamp.specs.declared.stamps.TxnId.{TxnId}
use Rattle.acc_stamp.specs.declared.actors.Actor.{Actor}
use Rattle.acc_stamp.specs.Actor.{node_of}
use Rattle.acc_stamp.proofs.Rising.{each_append, each_parts}
use Rattle.acc_topology.specs.declared.given.NodeSpec.{NodeSpec}
use Rattle.acc_topology.specs.Sets.{is_among}
use Rattle.acc_txn.specs.Rules.{IsBody}
use Rattle.acc_txn.specs.declared.parts.BodyParts.{BodyParts}
use Rattle.acc_message.specs.declared.message.Message.{Message}
use Rattle.acc_message.specs.declared.note.Note.{Note}
use Rattle.acc_message.specs.declared.note.Note.TheVariants.{Begin as BeginNote, Recover as RecoverNote, Blocked, Ended, Decide as DecideNote, Outcome as OutcomeNote, Reply as ReplyNote}
use Rattle.acc_message.specs.declared.entry.Event.{Event}
use Rattle.acc_message.specs.declared.entry.Event.TheVariants.{Begin as BeginEvent, Recover as RecoverEvent, Slow as SlowEvent, Message as MessageEvent, Restart as RestartEvent}
use Rattle.acc_message.specs.declared.item.Item.{Item}
use Rattle.acc_message.specs.declared.item.Item.TheVariants.{Step}
use Rattle.acc_message.specs.Fields.{to_of}
use Rattle.acc_message.specs.Items.{sent_in, noted_in, sent_of, message_at, id_of_txn}
use Rattle.acc_message.specs.NodeRules.{Act, Begins, Recovers, Slows, Takes, Restarts}
use Rattle.acc_message.specs.Run.{Cluster, clock_start, recovers, act_of, goes_to, IsNodeOf, IsHomeOf, MayStand}
use Rattle.acc_actor_laws.proofs.Standing.{not_none}
use Rattle.acc_actor_laws.proofs.OpeningFacts.{some_is}
use Rattle.acc_safety.specs.Valid.{IsValidCluster}
use Rattle.acc_safety.specs.Places.{IsIn, First, Later, StandsAt, Here, Back, IsPast, Whole}
use Rattle.acc_safety.specs.Histories.{Sending}
use Rattle.acc_safety.specs.RunLaws.{drawn_in, drawn_of}
use Rattle.acc_safety.proofs.PlaceOrder.{StandsAt-IsPast, IsPast-rest, each_at}
use Rattle.acc_safety.proofs.Bridge.{same, Sending-past, Noting-past, sent_is_sending}
use Rattle.acc_safety.proofs.BodiesBegun.{begin_entry}
use Rattle.acc_run_laws.specs.Heights.{most_h, IsLowClock, clock_at}
use Rattle.acc_run_laws.proofs.Bounded.{IsLow, IsActor, IsKnownId, IsBounded}
use Rattle.acc_run_laws.proofs.Addresses.{node_low, node_is_actor}
use Rattle.acc_run_laws.proofs.NodeBounds.{IsBoundedAct}
use Rattle.acc_run_laws.proofs.Begun.{begun_in, begun_of, noted_begun}

-- ---- lists

pub get_each : {X : Type 0} (P : X → Type 0) (xs : List X) (i : ℕ) (x : X) → AllByRecursion P xs → slice_get xs i ≡ Some x → P x
get_each P [] i x h e = absurd (not_none x e)
get_each P (y ∷ xs) zero x h e = subst P (some_is y x e) h.0
get_each P (y ∷ xs) (suc i) x h e = get_each P xs i x h.1 e

pub get_is_in : (ms : List Message) (number : ℕ) (m : Message) → slice_get ms number ≡ Some m → IsIn m ms
get_is_in [] number m e = absurd (not_none m e)
get_is_in (n ∷ ms) zero m e = subst (λ k. IsIn k (n ∷ ms)) (some_is n m e) (First n ms)
get_is_in (n ∷ ms) (suc number) m e = Later m n ms (get_is_in ms number m e)

pub each_standing : {T : Type 0} (P : T → Type 0) (xs : List T) → ((x : T) (past : List T) → StandsAt x past xs → P x) → AllByRecursion P xs
each_standing P [] h = tt
each_standing P (x ∷ xs) h = (h x xs (Here x xs), each_standing P xs (λ y past at. h y past (Back y x past xs at)))

pub each_flat : {X Y : Type 0} (P : Y → Type 0) (f : X → List Y) (xs : List X) → ((x : X) → IsIn x xs → AllByRecursion P (f x)) → AllByRecursion P (flat_map f xs)
each_flat P f [] h = tt
each_flat P f (x ∷ xs) h = each_append P (f x) (flat_map f xs) (h x (First x xs)) (each_flat P f xs (λ y there. h y (Later y x xs there)))

at_cases : {T : Type 0} (x y : T) (past xs : List T) → StandsAt x past (y ∷ xs) → (x ≡ y) ⊎ StandsAt x past xs
at_cases x y past xs (Here a rest) = inl refl
at_cases x y past xs (Back a b before rest there) = inr there

pub sending_cases : (item : Item) (earlier : List Item) (m : Message) → Sending (item ∷ earlier) m → IsIn m (sent_in item) ⊎ Sending earlier m
sending_cases item earlier m s =
    ⊎_elim (λ is. inl (subst (λ i. IsIn m (sent_in i)) is s.sent)) (λ at. inr (record { entry = s.entry; earlier = s.earlier; at = at; sent = s.sent }))
    (at_cases (Step s.entry) item s.earlier earlier s.at)

pub earlier_is_past : (item : Item) (earlier items : List Item) → StandsAt item earlier items → IsPast earlier items
earlier_is_past item earlier items at = IsPast-rest item earlier items (StandsAt-IsPast item earlier items at)

pub low_number : (a : Actor) → IsActor a → node_of a ≤ 15
low_number a h = low a.0 h.number
  where
    low : (n : ℕ) → n < 1024 → n / 64 ≤ 15
    low n lt = omega (arith, lt)

-- ---- what holds after some items

pub record Stage (cluster : Cluster) (items : List Item) : Type 0 where
  pub messages : (m : Message) → Sending items m → IsBounded (most_h items) (begun_of items) m
  pub drawn : AllByRecursion (IsLow (most_h items)) (drawn_of items)
  pub clocks : (a : Actor) → IsLowClock (most_h items) (clock_at cluster a items)

begun_low : (most : ℕ) (notes : List Note) → AllByRecursion (IsLow most) (flat_map drawn_in notes) → AllByRecursion (λ (x : TxnId). IsLow most x.0) (flat_map begun_in notes)
begun_low most [] h = tt
begun_low most (BeginNote id ∷ notes) h = (h.0, begun_low most notes h.1)
begun_low most (RecoverNote id ballot ∷ notes) h = begun_low most notes h.1
begun_low most (Blocked id ballot by ∷ notes) h = begun_low most notes h
begun_low most (Ended id ballot by ∷ notes) h = begun_low most notes h
begun_low most (DecideNote id t path deps ∷ notes) h = begun_low most notes h
begun_low most (OutcomeNote id reply ∷ notes) h = begun_low most notes h
begun_low most (ReplyNote id reply ∷ notes) h = begun_low most notes h

all_begun_low : (most : ℕ) (items : List Item) → AllByRecursion (IsLow most) (drawn_of items) → AllByRecursion (λ (x : TxnId). IsLow most x.0) (begun_of items)
all_begun_low most [] h = tt
all_begun_low most (item ∷ earlier) h =
    let parts = each_parts (IsLow most) (flat_map drawn_in (noted_in item)) (drawn_of earlier) h in
    each_append (λ (x : TxnId). IsLow most x.0) (flat_map begun_in (noted_in item)) (begun_of earlier) (begun_low most (noted_in item) parts.0) (all_begun_low most earlier parts.1)

start_low : (starts : List NodeSpec) (node : ℕ) → AllByRecursion (λ (s : NodeSpec). s.clock ≤ 1000000000000) starts → clock_start starts node ≤ 1000000000000
start_low [] node h = omega arith
start_low (spec ∷ starts) node h = cond_both (spec.id == node) spec.clock (clock_start starts node) (λ n. n ≤ 1000000000000) (λ _. h.0) (λ _. start_low starts node h.1)

pub valid_start : (cluster : Cluster) (node : ℕ) → IsValidCluster cluster → clock_start cluster.starts node ≤ 1000000000000
valid_start cluster node valid = start_low cluster.starts node valid.starts.clocks

at_node : (cluster : Cluster) → IsValidCluster cluster → (a : Actor) → IsNodeOf cluster.layout a → IsActor a
at_node cluster valid a h = subst IsActor (sym h.2) (node_is_actor h.0 (node_low cluster.layout h.0 valid.layout h.1))

at_home : (cluster : Cluster) → IsValidCluster cluster → (txn : ℕ) (a : Actor) → IsHomeOf cluster txn a → IsActor a
at_home cluster valid txn a h =
    subst IsActor (sym h.2)
    (node_is_actor h.0 (node_low cluster.layout h.0 valid.layout (get_each (λ node. IsTrue (is_among cluster.layout.nodes node)) cluster.homes txn h.0 valid.homes h.1)))

module _ (cluster : Cluster) (valid : IsValidCluster cluster) where
  -- ---- acts

  module _ (earlier : List Item) (stage : Stage cluster earlier) where
    known_id : (past : List Item) → IsPast past earlier → (txn : ℕ) (x : TxnId) → id_of_txn past txn ≡ Some x → IsKnownId (most_h earlier) (begun_of earlier) x
    known_id past within txn x is =
        let b = begin_entry past txn x is in
        let there = noted_begun earlier x (Noting-past past earlier (BeginNote x) within (record { entry = b.entry; earlier = b.earlier; at = b.at; noted = b.noted })) in
        record { there = there; low = each_at (λ (y : TxnId). IsLow (most_h earlier) y.0) x (begun_of earlier) (all_begun_low (most_h earlier) earlier stage.drawn) there }

    pub act_bounded : (past : List Item) → IsPast past earlier → (event : Event) (act : Act) → act_of cluster past event ≡ Some act → IsBoundedAct (most_h earlier) (begun_of earlier) act
    act_bounded past within (BeginEvent txn) act is = by (slice_get cluster.bodies txn) refl is
      where
        by : (o : Option BodyParts) → slice_get cluster.bodies txn ≡ o → option_map (Begins txn) o ≡ Some act → IsBoundedAct (most_h earlier) (begun_of earlier) act
        by None found e = absurd (not_none act e)
        by (Some body) found e = subst (IsBoundedAct (most_h earlier) (begun_of earlier)) (some_is (Begins txn body) act e) (get_each IsBody cluster.bodies txn body valid.bodies found)
    act_bounded past within (RecoverEvent txn) act is = by (id_of_txn past txn) (slice_get cluster.bodies txn) refl refl is
      where
        by : (x : Option TxnId) (o : Option BodyParts) → id_of_txn past txn ≡ x → slice_get cluster.bodies txn ≡ o → recovers x o ≡ Some act → IsBoundedAct (most_h earlier) (begun_of earlier) act
        by None o known found e = absurd (not_none act e)
        by (Some x) None known found e = absurd (not_none act e)
        by (Some x) (Some body) known found e =
            subst (IsBoundedAct (most_h earlier) (begun_of earlier)) (some_is (Recovers x body) act e)
            (known_id past within txn x known, get_each IsBody cluster.bodies txn body valid.bodies found)
    act_bounded past within (SlowEvent txn) act is = by (id_of_txn past txn) refl is
      where
        by : (x : Option TxnId) → id_of_txn past txn ≡ x → option_map Slows x ≡ Some act → IsBoundedAct (most_h earlier) (begun_of earlier) act
        by None known e = absurd (not_none act e)
        by (Some x) known e = subst (IsBoundedAct (most_h earlier) (begun_of earlier)) (some_is (Slows x) act e) (known_id past within txn x known)
    act_bounded past within (MessageEvent number) act is = by (message_at past number) refl is
      where
        by : (o : Option Message) → message_at past number ≡ o → option_map Takes o ≡ Some act → IsBoundedAct (most_h earlier) (begun_of earlier) act
        by None found e = absurd (not_none act e)
        by (Some m) found e =
            subst (IsBoundedAct (most_h earlier) (begun_of earlier)) (some_is (Takes m) act e)
            (stage.messages m (Sending-past past earlier m within (sent_is_sending past m (get_is_in (sent_of past) number m found))))
    act_bounded past within (RestartEvent kept) act is = subst (IsBoundedAct (most_h earlier) (begun_of earlier)) (some_is Restarts act is) tt

    -- who acts is an actor of the cluster, or only comes back
    pub acting : (event : Event) (a : Actor) (act : Act) → act_of cluster earlier event ≡ Some act → MayStand cluster earlier a act event → IsActor a ⊎ (act ≡ Restarts)
    acting (BeginEvent txn) a act is place = inl (at_home cluster valid txn a place.0)
    acting (RecoverEvent txn) a act is place = inl (at_node cluster valid a place.0)
    acting (SlowEvent txn) a act is place = inl (at_home cluster valid txn a place.0)
    acting (MessageEvent number) a act is place = inl (by act place (act_bounded earlier (Whole earlier) (MessageEvent number) act is))
      where
        by : (act : Act) → IsTrue (goes_to a act) → IsBoundedAct (most_h earlier) (begun_of earlier) act → IsActor a
        by (Takes m) goes h = subst IsActor (same (to_of m) a goes) h.address.to
        by (Begins txn body) goes h = absurd (true≢false (sym goes))
        by (Recovers x body) goes h = absurd (true≢false (sym goes))
        by (Slows x) goes h = absurd (true≢false (sym goes))
        by Restarts goes h = absurd (true≢false (sym goes))
    acting (RestartEvent kept) a act is place = inr (sym (some_is Restarts act is))
