-- The transactions that were begun in a run, and that there are no more of them than the cluster has bodies.
use Rattle.std.proofs.Common.{◌≡◌, ℕ, ◌≤◌, ◌<◌, ◌==◌, Bool, true, false, List, [], ◌∷◌, ◌++◌, length, Option, None, Some, refl, sym, ◌∙◌, ap, subst, arith, ⊎_elim, length-append}
use Rattle.std.specs.List.{AllByRecursion, flat_map, slice_get, list_any, IsDistinct}
use Rattle.std.specs.Option.{option_map}
use Rattle.std.proofs.lemmas.Bool.{true≢false, eqb-true, eq-eqb, or_cases, or_parts, not-true, cases_Bool}
use Rattle.std.proofs.lemmas.Option.{slice_get_within}
use Rattle.std.proofs.lemmas.Map.Steps.{length-le_from_distinct_below}
use Rattle.acc_stamp.specs.declared.stamps.TxnId.{TxnId}
use Rattle.acc_stamp.specs.declared.actors.Actor.{Actor}
use Rattle.acc_stamp.specs.Actor.{node_of}
use Rattle.acc_topology.specs.Layout.{Layout}
use Rattle.acc_txn.specs.declared.parts.BodyParts.{BodyParts}
use Rattle.acc_message.specs.declared.message.Message.{Message}
use Rattle.acc_message.specs.declared.note.Note.{Note}
use Rattle.acc_message.specs.declared.note.Note.TheVariants.{Begin as BeginNote}
use Rattle.acc_message.specs.declared.entry.Emitted.{Emitted}
use Rattle.acc_message.specs.declared.entry.Event.{Event}
use Rattle.acc_message.specs.declared.entry.Event.TheVariants.{Begin as BeginEvent, Recover as RecoverEvent, Slow as SlowEvent, Message as MessageEvent, Restart as RestartEvent}
use Rattle.acc_message.specs.declared.item.Item.{Item}
use Rattle.acc_message.specs.declared.item.Item.TheVariants.{Step, Skipped, Down}
use Rattle.acc_message.specs.Items.{noted_in, message_at, event_begins, is_begun, id_of_txn}
use Rattle.acc_message.specs.Taken.{Taken}
use Rattle.acc_message.specs.NodeRules.{Act, Begins, Recovers, Slows, Takes, Restarts, Deed}
use Rattle.acc_message.specs.Run.{Cluster, clock_start, recovers, act_of, deeds_of, taken_from, store_emits, emits_by, is_node, MayStand, EachStands}
use Rattle.acc_actor_laws.proofs.Standing.{not_none}
use Rattle.acc_actor_laws.proofs.OpeningFacts.{some_is}
use Rattle.acc_safety.specs.Places.{IsIn, First, StandsAt, Here, Back}
use Rattle.acc_safety.specs.Histories.{Noting}
use Rattle.acc_safety.specs.NodeMoves.{NodeNotes, NotesBegin, NotesRecover, NotesDecision, NotesOutcome, NotesReply, NotesTold, NotesBlocked, NotesEnded}
use Rattle.acc_safety.proofs.PlaceOrder.{IsIn-append_left, IsIn-append_right, flat_map-IsIn}
use Rattle.acc_safety.proofs.NodeSent.{node_notes}

abbrev pub begun_in : Note → List TxnId
begun_in (BeginNote id) = id ∷ []
begun_in _ = []

-- the transactions that these items began
abbrev pub begun_of : List Item → List TxnId
begun_of [] = []
begun_of (item ∷ earlier) = flat_map begun_in (noted_in item) ++ begun_of earlier

pub noted_begun : (items : List Item) (x : TxnId) → Noting items (BeginNote x) → IsIn x (begun_of items)
noted_begun items x n = by (Step n.entry) n.earlier items n.at n.noted
  where
    by : (item : Item) (earlier items : List Item) → StandsAt item earlier items → IsIn (BeginNote x) (noted_in item) → IsIn x (begun_of items)
    by item earlier items (Here i past) there =
        IsIn-append_left x (flat_map begun_in (noted_in i)) (begun_of past) (flat_map-IsIn begun_in x (BeginNote x) (noted_in i) there (First x []))
    by item earlier items (Back i j past rest at) there = IsIn-append_right x (flat_map begun_in (noted_in j)) (begun_of rest) (by i past rest at there)

-- ---- an entry begins at most one, by a begin

none_of : {X Y : Type 0} (f : X → List Y) (xs : List X) → ((x : X) → IsIn x xs → f x ≡ []) → flat_map f xs ≡ []
none_of f [] h = refl
none_of f (x ∷ xs) h = ap (λ l. l ++ flat_map f xs) (h x (First x xs)) ∙ none_of f xs (λ y there. h y (later y there))
  where
    later : (y : _) → IsIn y xs → IsIn y (x ∷ xs)
    later y there = IsIn-append_right y (x ∷ []) xs there

other_begins_none : (layout : Layout) (node start : ℕ) (past : List Deed) (act : Act) (note : Note) → ((txn : ℕ) (body : BodyParts) → act ≡ Begins txn body → ⊥)
    → NodeNotes layout node start past act note → begun_in note ≡ []
other_begins_none layout node start past act note other (NotesBegin txn body) = absurd (other txn body refl)
other_begins_none layout node start past act note other (NotesRecover x body) = refl
other_begins_none layout node start past act note other (NotesDecision on x a path s reacts) = refl
other_begins_none layout node start past act note other (NotesOutcome on x a s outcome reacts) = refl
other_begins_none layout node start past act note other (NotesReply on x a s outcome reacts is_open) = refl
other_begins_none layout node start past act note other (NotesTold from to x b outcome is_open) = refl
other_begins_none layout node start past act note other (NotesBlocked on x a by reacts) = refl
other_begins_none layout node start past act note other (NotesEnded on x a by reacts) = refl

pub store_notes_none : (layout : Layout) (a : Actor) (past : List Taken) (act : Act) → (store_emits layout a past act).notes ≡ []
store_notes_none layout a past (Begins txn body) = refl
store_notes_none layout a past (Recovers x body) = refl
store_notes_none layout a past (Slows x) = refl
store_notes_none layout a past (Takes m) = refl
store_notes_none layout a past Restarts = refl

store_begins_none : (cluster : Cluster) (a : Actor) (past : List Deed) (act : Act) → flat_map begun_in (emits_by false cluster a past act).notes ≡ []
store_begins_none cluster a past act = ap (λ notes. flat_map begun_in notes) (store_notes_none cluster.layout a (taken_from past) act)

begins_none : (b : Bool) (cluster : Cluster) (a : Actor) (past : List Deed) (act : Act) → ((txn : ℕ) (body : BodyParts) → act ≡ Begins txn body → ⊥)
    → flat_map begun_in (emits_by b cluster a past act).notes ≡ []
begins_none false cluster a past act other = store_begins_none cluster a past act
begins_none true cluster a past act other =
    none_of begun_in (emits_by true cluster a past act).notes
    (λ note there.
    other_begins_none cluster.layout (node_of a) (clock_start cluster.starts (node_of a)) past act note other
    (node_notes cluster.layout (node_of a) (clock_start cluster.starts (node_of a)) past act note there))

one_begun : (b : Bool) (cluster : Cluster) (a : Actor) (past : List Deed) (txn : ℕ) (body : BodyParts) → length (flat_map begun_in (emits_by b cluster a past (Begins txn body)).notes) ≤ 1
one_begun true cluster a past txn body = omega arith
one_begun false cluster a past txn body = omega arith

-- ---- the numbers of the transactions that were begun

txns_in : Event → List ℕ
txns_in (BeginEvent txn) = txn ∷ []
txns_in (RecoverEvent txn) = []
txns_in (SlowEvent txn) = []
txns_in (MessageEvent number) = []
txns_in (RestartEvent kept) = []

txns_of : List Item → List ℕ
txns_of [] = []
txns_of (Step e ∷ earlier) = txns_in e.event ++ txns_of earlier
txns_of (Skipped step cause ∷ earlier) = txns_of earlier
txns_of (Down actor ∷ earlier) = txns_of earlier

none_here : (cluster : Cluster) (earlier : List Item) (a : Actor) (act : Act) → ((txn : ℕ) (body : BodyParts) → act ≡ Begins txn body → ⊥)
    → length (flat_map begun_in (emits_by (is_node a) cluster a (deeds_of cluster a earlier) act).notes) ≤ 0
none_here cluster earlier a act other = subst (λ (l : List TxnId). length l ≤ 0) (sym (begins_none (is_node a) cluster a (deeds_of cluster a earlier) act other)) (omega arith)

few_here : (cluster : Cluster) (earlier : List Item) (a : Actor) (act : Act) (event : Event) → act_of cluster earlier event ≡ Some act
    → length (flat_map begun_in (emits_by (is_node a) cluster a (deeds_of cluster a earlier) act).notes) ≤ length (txns_in event)
unfolding txns_in
few_here cluster earlier a act (BeginEvent txn) is = by (slice_get cluster.bodies txn) is
  where
    by : (o : Option BodyParts) → option_map (Begins txn) o ≡ Some act → length (flat_map begun_in (emits_by (is_node a) cluster a (deeds_of cluster a earlier) act).notes) ≤ 1
    by None e = absurd (not_none act e)
    by (Some body) e =
        subst (λ (c : Act). length (flat_map begun_in (emits_by (is_node a) cluster a (deeds_of cluster a earlier) c).notes) ≤ 1) (some_is (Begins txn body) act e)
        (one_begun (is_node a) cluster a (deeds_of cluster a earlier) txn body)
few_here cluster earlier a act (RecoverEvent txn) is = none_here cluster earlier a act (λ number body e. by number body (id_of_txn earlier txn) (slice_get cluster.bodies txn) (is ∙ ap Some e))
  where
    by : (number : ℕ) (body : BodyParts) (x : Option TxnId) (o : Option BodyParts) → recovers x o ≡ Some (Begins number body) → ⊥
    by number body None o e = not_none (Begins number body) e
    by number body (Some x) None e = not_none (Begins number body) e
    by number body (Some x) (Some b) e = cc
few_here cluster earlier a act (SlowEvent txn) is = none_here cluster earlier a act (λ number body e. by number body (id_of_txn earlier txn) (is ∙ ap Some e))
  where
    by : (number : ℕ) (body : BodyParts) (x : Option TxnId) → option_map Slows x ≡ Some (Begins number body) → ⊥
    by number body None e = not_none (Begins number body) e
    by number body (Some x) e = cc
few_here cluster earlier a act (MessageEvent n) is = none_here cluster earlier a act (λ number body e. by number body (message_at earlier n) (is ∙ ap Some e))
  where
    by : (number : ℕ) (body : BodyParts) (m : Option Message) → option_map Takes m ≡ Some (Begins number body) → ⊥
    by number body None e = not_none (Begins number body) e
    by number body (Some m) e = cc
few_here cluster earlier a act (RestartEvent kept) is = none_here cluster earlier a act (λ number body e. by number body (is ∙ ap Some e))
  where
    by : (number : ℕ) (body : BodyParts) → Some Restarts ≡ Some (Begins number body) → ⊥
    by number body e = cc

few_begun : (cluster : Cluster) (items : List Item) → EachStands cluster items → length (begun_of items) ≤ length (txns_of items)
unfolding txns_of
few_begun cluster [] h = omega arith
few_begun cluster (Step e ∷ earlier) h =
    let here : length (flat_map begun_in e.emitted.notes) ≤ length (txns_in e.event) =
    subst (λ (m : Emitted). length (flat_map begun_in m.notes) ≤ length (txns_in e.event)) (sym h.0.emitted) (few_here cluster earlier e.actor h.0.act e.event h.0.act_is) in
    let rest = few_begun cluster earlier h.1 in
    omega (arith, length-append (flat_map begun_in e.emitted.notes) (begun_of earlier), length-append (txns_in e.event) (txns_of earlier), here, rest)
few_begun cluster (Skipped step cause ∷ earlier) h = few_begun cluster earlier h.1
few_begun cluster (Down actor ∷ earlier) h = few_begun cluster earlier h.1

-- ---- each of them is begun once, and has a body

among_begun : (items : List Item) (txn : ℕ) → is_begun items txn ≡ false → AllByRecursion (λ n. (txn == n) ≡ false) (txns_of items)
unfolding txns_of txns_in
among_begun [] txn h = tt
among_begun (Step e ∷ earlier) txn h = let parts = or_parts (event_begins txn e.event) (is_begun earlier txn) h in by e.event parts.0 (among_begun earlier txn parts.1)
  where
    flipped : (n : ℕ) → (n == txn) ≡ false → (txn == n) ≡ false
    flipped n apart = ⊎_elim (λ yes. absurd (true≢false (sym (subst (λ k. (k == txn) ≡ true) (eqb-true txn n yes) (eq-eqb txn txn refl)) ∙ apart))) (λ e. e) (cases_Bool (txn == n))

    by : (event : Event) → event_begins txn event ≡ false → AllByRecursion (λ n. (txn == n) ≡ false) (txns_of earlier) → AllByRecursion (λ n. (txn == n) ≡ false) (txns_in event ++ txns_of earlier)
    by (BeginEvent number) here rest = (flipped number here, rest)
    by (RecoverEvent number) here rest = rest
    by (SlowEvent number) here rest = rest
    by (MessageEvent number) here rest = rest
    by (RestartEvent kept) here rest = rest
among_begun (Skipped step cause ∷ earlier) txn h = among_begun earlier txn h
among_begun (Down actor ∷ earlier) txn h = among_begun earlier txn h

distinct_txns : (cluster : Cluster) (items : List Item) → EachStands cluster items → IsDistinct (λ n m. n == m) (txns_of items)
unfolding txns_of txns_in IsDistinct
distinct_txns cluster [] h = tt
distinct_txns cluster (Step e ∷ earlier) h = by e.event h.0.place (distinct_txns cluster earlier h.1)
  where
    by : (event : Event) → MayStand cluster earlier e.actor h.0.act event → IsDistinct (λ n m. n == m) (txns_of earlier) → IsDistinct (λ n m. n == m) (txns_in event ++ txns_of earlier)
    by (BeginEvent number) place rest = (among_begun earlier number (not-true (is_begun earlier number) place.1), rest)
    by (RecoverEvent number) place rest = rest
    by (SlowEvent number) place rest = rest
    by (MessageEvent number) place rest = rest
    by (RestartEvent kept) place rest = rest
distinct_txns cluster (Skipped step cause ∷ earlier) h = distinct_txns cluster earlier h.1
distinct_txns cluster (Down actor ∷ earlier) h = distinct_txns cluster earlier h.1

txns_below : (cluster : Cluster) (items : List Item) → EachStands cluster items → AllByRecursion (λ n. n < length cluster.bodies) (txns_of items)
unfolding txns_of txns_in
txns_below cluster [] h = tt
txns_below cluster (Step e ∷ earlier) h = by e.event h.0.act_is (txns_below cluster earlier h.1)
  where
    within : (number : ℕ) (o : Option BodyParts) → slice_get cluster.bodies number ≡ o → option_map (Begins number) o ≡ Some h.0.act → number < length cluster.bodies
    within number None is e = absurd (not_none h.0.act e)
    within number (Some body) is e = slice_get_within cluster.bodies number body is

    by : (event : Event) → act_of cluster earlier event ≡ Some h.0.act → AllByRecursion (λ n. n < length cluster.bodies) (txns_of earlier) → AllByRecursion (λ n. n < length cluster.bodies) (txns_in event ++ txns_of earlier)
    by (BeginEvent number) is rest = (within number (slice_get cluster.bodies number) refl is, rest)
    by (RecoverEvent number) is rest = rest
    by (SlowEvent number) is rest = rest
    by (MessageEvent number) is rest = rest
    by (RestartEvent kept) is rest = rest
txns_below cluster (Skipped step cause ∷ earlier) h = txns_below cluster earlier h.1
txns_below cluster (Down actor ∷ earlier) h = txns_below cluster earlier h.1

at_any : (P : ℕ → Type 0) (q : ℕ) (ns : List ℕ) → AllByRecursion P ns → list_any (λ n. q == n) ns ≡ true → P q
at_any P q [] h k = absurd (true≢false (sym k))
at_any P q (n ∷ ns) h k = ⊎_elim (λ same. subst P (sym (eqb-true q n same)) h.0) (at_any P q ns h.1) (or_cases (q == n) (list_any (λ m. q == m) ns) k)

pub begun_few : (cluster : Cluster) (items : List Item) → EachStands cluster items → length (begun_of items) ≤ length cluster.bodies
begun_few cluster items h =
    let txns = length-le_from_distinct_below (txns_of items) (length cluster.bodies) (distinct_txns cluster items h)
    (λ q among. at_any (λ n. n < length cluster.bodies) q (txns_of items) (txns_below cluster items h) among) in
    let begun = few_begun cluster items h in
    omega (arith, txns, begun)
