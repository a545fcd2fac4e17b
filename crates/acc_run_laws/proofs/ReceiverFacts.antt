-- In every run of a valid cluster a message comes from an actor and goes to one: by induction over the items.
use Rattle.std.proofs.Common.{◌≡◌, ℕ, ◌*◌, ◌/◌, Bool, true, false, IsTrue, List, [], ◌∷◌, Option, None, Some, Contains, refl, sym, ◌∙◌, ap, subst, ◌⊎◌, inl, inr, ⊎_elim, arith}
use Rattle.std.specs.List.{AllByRecursion, flat_map}
use Rattle.std.proofs.lemmas.Bool.{true≢false, cond_both}
use Rattle.acc_stamp.specs.declared.stamps.TxnId.{TxnId}
use Rattle.acc_stamp.specs.declared.stamps.Ballot.{Ballot}
use Rattle.acc_stamp.specs.declared.actors.Actor.{Actor}
use Rattle.acc_stamp.specs.Actor.{node_of, home_of, actor_of}
use Rattle.acc_stamp.specs.Stamp.{id_eq, ballot_lt}
use Rattle.acc_stamp.proofs.History.{draws_are_of_node}
use Rattle.acc_stamp.specs.History.{Draw}
use Rattle.acc_stamp.proofs.Order.{id_order}
use Rattle.acc_topology.specs.Layout.{Layout}
use Rattle.acc_message.specs.declared.message.Message.{Message}
use Rattle.acc_message.specs.declared.message.Message.TheVariants.{PreAccept, PreAcceptOk, Accept, AcceptOk, Commit, CommitOk, Stable, ReadOk, Apply, Recover, RecoverOk, Nack, Decided, Inform}
use Rattle.acc_message.specs.declared.entry.Emitted.{Emitted}
use Rattle.acc_message.specs.declared.entry.Entry.{Entry}
use Rattle.acc_message.specs.declared.entry.Event.{Event}
use Rattle.acc_message.specs.declared.entry.Event.TheVariants.{Begin as BeginEvent, Recover as RecoverEvent, Slow as SlowEvent, Message as MessageEvent, Restart as RestartEvent}
use Rattle.acc_message.specs.declared.item.Item.{Item}
use Rattle.acc_message.specs.declared.item.Item.TheVariants.{Step, Skipped, Down}
use Rattle.acc_message.specs.Fields.{from_of, to_of, id_of, ballot_of}
use Rattle.acc_message.specs.Items.{sent_in, sent_of, message_at}
use Rattle.acc_message.specs.Coordinator.{home_node}
use Rattle.acc_message.specs.Taken.{Taken, taking}
use Rattle.acc_message.specs.StoreRules.{stable_ballots, stable_ballots_in}
use Rattle.acc_txn.specs.declared.parts.BodyParts.{BodyParts}
use Rattle.acc_message.specs.declared.note.Note.{Note}
use Rattle.acc_message.specs.Items.{noted_in}
use Rattle.acc_message.specs.NodeRules.{Act, Begins, Recovers, Slows, Takes, Restarts, Deed, clock_events, next_draw, next_id}
use Rattle.acc_message.specs.Run.{Cluster, act_of, clock_start, deeds_of, taken_from, taken_of, store_emits, emits_by, is_node, goes_to, MayStand, StandsOn, EachStands}
use Rattle.acc_safety.specs.Valid.{IsValidCluster, IsStanding}
use Rattle.acc_safety.specs.Places.{IsIn}
use Rattle.acc_safety.specs.Histories.{Sending}
use Rattle.acc_safety.specs.StoreSends.{StoreSends, Votes, Accepts, Commits, Reveals, ReadsAtOnce, ReadsOnOpening, Refuses, Tells}
use Rattle.acc_safety.proofs.PlaceOrder.{IsIn-Contains, IsIn-append_cases, IsIn-flat_map, none_is_in, only, each_at}
use Rattle.acc_safety.proofs.Bridge.{same, node_is_actor, sent_is_sending, Sending-past, store_step}
use Rattle.acc_safety.proofs.Frame.{homes_are_one}
use Rattle.acc_safety.proofs.DrawFacts.{is_node-node}
use Rattle.acc_safety.proofs.StoreSent.{store_sends}
use Rattle.acc_safety.proofs.NodeSent.{node_sends, node_notes}
use Rattle.acc_safety.specs.NodeMoves.{NodeSends, AsksForVotes, AsksForViews, Proposes, Commits as CommitsTo, Decides, Finishes, Informs, NodeNotes, NotesBegin, NotesRecover, NotesDecision, NotesOutcome, NotesReply, NotesTold, NotesBlocked, NotesEnded}
use Rattle.acc_actor_laws.proofs.Standing.{not_none}
use Rattle.acc_actor_laws.proofs.OpeningFacts.{some_is}
use Rattle.std.specs.Option.{option_map}
use Rattle.std.specs.List.{slice_get}
use Rattle.acc_message.specs.Items.{id_of_txn}
use Rattle.acc_message.specs.Run.{recovers}
use Rattle.acc_run_laws.proofs.Begun.{begun_in, begun_of, store_notes_none}
use Rattle.acc_run_laws.proofs.Unions.{each_with}
use Rattle.acc_run_laws.proofs.RunBounds.{each_standing, earlier_is_past, get_is_in, sending_cases}
use Rattle.acc_run_laws.proofs.Stages.{stage_of}
use Rattle.acc_schedule.specs.Actors.{actors}
use Rattle.acc_run_laws.proofs.Layouts.{at_home, at_node}
use Rattle.acc_run_laws.proofs.Nodes.{node_directed}

-- both ends of the message and the home of its attempt are actors of the layout, and what goes to a store comes from a node
pub record IsRouted (layout : Layout) (m : Message) : Type 0 where
  pub from : IsIn (from_of m) (actors layout)
  pub to : IsIn (to_of m) (actors layout)
  pub home : IsIn (home_of (id_of m) (ballot_of m)) (actors layout)
  pub asked : is_node (to_of m) ≡ false → is_node (from_of m) ≡ true

pub record Routes (cluster : Cluster) (items : List Item) : Type 0 where
  pub messages : (m : Message) → Sending items m → IsRouted cluster.layout m
  pub begun : (x : TxnId) → IsIn x (begun_of items) → IsIn (home_node x) (actors cluster.layout)

-- ---- what a node sends and notes

node_from : (layout : Layout) (node start : ℕ) (past : List Deed) (act : Act) (m : Message) → NodeSends layout node start past act m → from_of m ≡ actor_of node 0
node_from layout node start past act m (AsksForVotes txn body store) = refl
node_from layout node start past act m (AsksForViews x body store) = refl
node_from layout node start past act m (Proposes on x a s store reacts) = refl
node_from layout node start past act m (CommitsTo on x a s store reacts) = refl
node_from layout node start past act m (Decides on x a path s store reacts noted) = refl
node_from layout node start past act m (Finishes on x a s outcome store reacts) = refl
node_from layout node start past act m (Informs on x a s outcome reacts) = refl

home_of_begun : (node start : ℕ) (past : List Deed) → home_node (next_id node start past) ≡ actor_of node 0
home_of_begun node start past = ap (λ n. actor_of n 0) (number (next_draw node start past).origin (draws_are_of_node node start (Draw ∷ clock_events past)).0)
  where
    number : (origin : ℕ) → origin ≡ node * 64 → origin / 64 ≡ node
    number origin is = omega arith

begun_home : (layout : Layout) (node start : ℕ) (past : List Deed) (act : Act) (note : Note) (x : TxnId) → NodeNotes layout node start past act note
    → IsIn x (begun_in note) → home_node x ≡ actor_of node 0
begun_home layout node start past act note x (NotesBegin txn body) there =
    ap home_node (only x (next_id node start past) there) ∙ home_of_begun node start past
begun_home layout node start past act note x (NotesRecover y body) there = absurd (none_is_in x there)
begun_home layout node start past act note x (NotesDecision on y a path s reacts) there = absurd (none_is_in x there)
begun_home layout node start past act note x (NotesOutcome on y a s outcome reacts) there = absurd (none_is_in x there)
begun_home layout node start past act note x (NotesReply on y a s outcome reacts is_open) there = absurd (none_is_in x there)
begun_home layout node start past act note x (NotesTold from to y b outcome is_open) there = absurd (none_is_in x there)
begun_home layout node start past act note x (NotesBlocked on y a by reacts) there = absurd (none_is_in x there)
begun_home layout node start past act note x (NotesEnded on y a by reacts) there = absurd (none_is_in x there)

-- ---- what a store sends

module _ (layout : Layout) where
  abbrev IsHomed : TxnId → Ballot → Type 0
  IsHomed x b = IsIn (home_of x b) (actors layout)

  abbrev TookHomed : List Taken → Type 0
  TookHomed history = AllByRecursion (λ (step : Taken). IsHomed (id_of step.message) (ballot_of step.message)) history

  ballots_in_homed : (x : TxnId) (m : Message) (ballots : List Ballot) → IsHomed (id_of m) (ballot_of m) → AllByRecursion (IsHomed x) ballots
      → AllByRecursion (IsHomed x) (stable_ballots_in x m ballots)
  ballots_in_homed x (Stable from to id ballot body t deps) ballots h k =
      cond_both (id_eq id x) _ ballots (AllByRecursion (IsHomed x))
      (λ same. each_with (IsHomed x) ballot_lt ballot ballots (subst (λ y. IsHomed y ballot) ((id_order.decides id x).0 same) h) k)
      (λ _. k)
  ballots_in_homed x (PreAccept from to id ballot body) ballots h k = k
  ballots_in_homed x (PreAcceptOk from to id ballot vote deps) ballots h k = k
  ballots_in_homed x (Accept from to id ballot body t deps) ballots h k = k
  ballots_in_homed x (AcceptOk from to id ballot deps) ballots h k = k
  ballots_in_homed x (Commit from to id ballot body t deps) ballots h k = k
  ballots_in_homed x (CommitOk from to id ballot) ballots h k = k
  ballots_in_homed x (ReadOk from to id ballot answer) ballots h k = k
  ballots_in_homed x (Apply from to id ballot body t deps outcome) ballots h k = k
  ballots_in_homed x (Recover from to id ballot body) ballots h k = k
  ballots_in_homed x (RecoverOk from to id ballot view) ballots h k = k
  ballots_in_homed x (Nack from to id ballot promised) ballots h k = k
  ballots_in_homed x (Decided from to id ballot t deps) ballots h k = k
  ballots_in_homed x (Inform from to id ballot outcome) ballots h k = k

  ballots_homed : (history : List Taken) (x : TxnId) → TookHomed history → AllByRecursion (IsHomed x) (stable_ballots history x)
  ballots_homed [] x h = tt
  ballots_homed (step ∷ past) x h = ballots_in_homed x step.message (stable_ballots past x) h.0 (ballots_homed past x h.1)

  answer_routed : (own : Actor) (m : Message) → IsIn own (actors layout) → from_of m ≡ own → to_of m ≡ home_of (id_of m) (ballot_of m)
      → IsHomed (id_of m) (ballot_of m) → IsRouted layout m
  answer_routed own m actor from to home = record {
    from = subst (λ a. IsIn a (actors layout)) (sym from) actor;
    to = subst (λ a. IsIn a (actors layout)) (sym to) home;
    home = home;
    asked = λ store. absurd (true≢false (sym (is_node-node _) ∙ subst (λ a. is_node a ≡ false) to store));
  }

  store_routed : (own : Actor) (past : List Taken) (taken m : Message) → IsIn own (actors layout) → TookHomed past → IsHomed (id_of taken) (ballot_of taken)
      → StoreSends layout own past taken m → IsRouted layout m
  store_routed own past taken m actor took home (Votes from to x b body counting v s p k e) =
      answer_routed own (PreAcceptOk own (home_of x b) x b v.vote v.deps) actor refl refl home
  store_routed own past taken m actor took home (Accepts from to x b body counting t proposed deps s p k e) =
      answer_routed own (AcceptOk own (home_of x b) x b deps) actor refl refl home
  store_routed own past taken m actor took home (Commits from to x b body t deps s p) = answer_routed own (CommitOk own (home_of x b) x b) actor refl refl home
  store_routed own past taken m actor took home (Reveals from to x b body counting view p k e) =
      answer_routed own (RecoverOk own (home_of x b) x b view) actor refl refl home
  store_routed own past taken m actor took home (ReadsAtOnce from to x b body t deps answer p e) =
      answer_routed own (ReadOk own (home_of x b) x b answer) actor refl refl home
  store_routed own past taken m actor took home (ReadsOnOpening n c b answer before among opens there e) =
      answer_routed own (ReadOk own (home_of c.id b) c.id b answer) actor refl refl
      (each_at (IsHomed c.id) b (stable_ballots (taking taken past) c.id) (ballots_homed (taking taken past) c.id (home, took)) there)
  store_routed own past taken m actor took home (Refuses n promised e) =
      answer_routed own (Nack own (home_of (id_of taken) (ballot_of taken)) (id_of taken) (ballot_of taken) promised) actor refl refl home
  store_routed own past taken m actor took home (Tells n s e) =
      answer_routed own (Decided own (home_of (id_of taken) (ballot_of taken)) (id_of taken) (ballot_of taken) s.t s.deps) actor refl refl home

-- ---- an entry

module _ (cluster : Cluster) (valid : IsValidCluster cluster) (earlier : List Item) (each : EachStands cluster earlier) (routes : Routes cluster earlier) where
  abbrev IsRoutedAct : Act → Type 0
  IsRoutedAct (Begins txn body) = Unit {0}
  IsRoutedAct (Recovers x body) = Unit {0}
  IsRoutedAct (Slows x) = Unit {0}
  IsRoutedAct (Takes m) = IsRouted cluster.layout m
  IsRoutedAct Restarts = Unit {0}

  act_routed : (event : Event) (act : Act) → act_of cluster earlier event ≡ Some act → IsRoutedAct act
  act_routed (BeginEvent txn) act is = by (slice_get cluster.bodies txn) is
    where
      by : (o : Option BodyParts) → option_map (Begins txn) o ≡ Some act → IsRoutedAct act
      by None e = absurd (not_none act e)
      by (Some body) e = subst IsRoutedAct (some_is (Begins txn body) act e) tt
  act_routed (RecoverEvent txn) act is = by (id_of_txn earlier txn) (slice_get cluster.bodies txn) is
    where
      by : (x : Option TxnId) (o : Option BodyParts) → recovers x o ≡ Some act → IsRoutedAct act
      by None o e = absurd (not_none act e)
      by (Some x) None e = absurd (not_none act e)
      by (Some x) (Some body) e = subst IsRoutedAct (some_is (Recovers x body) act e) tt
  act_routed (SlowEvent txn) act is = by (id_of_txn earlier txn) is
    where
      by : (x : Option TxnId) → option_map Slows x ≡ Some act → IsRoutedAct act
      by None e = absurd (not_none act e)
      by (Some x) e = subst IsRoutedAct (some_is (Slows x) act e) tt
  act_routed (MessageEvent number) act is = by (message_at earlier number) refl is
    where
      by : (o : Option Message) → message_at earlier number ≡ o → option_map Takes o ≡ Some act → IsRoutedAct act
      by None found e = absurd (not_none act e)
      by (Some m) found e =
          subst IsRoutedAct (some_is (Takes m) act e)
          (routes.messages m (sent_is_sending earlier m (get_is_in (sent_of earlier) number m found)))
  act_routed (RestartEvent kept) act is = subst IsRoutedAct (some_is Restarts act is) tt

  receiving : (a : Actor) (act : Act) → IsTrue (goes_to a act) → IsRoutedAct act → IsIn a (actors cluster.layout)
  receiving a (Takes m) goes h = subst (λ b. IsIn b (actors cluster.layout)) (same (to_of m) a goes) h.to
  receiving a (Begins txn body) goes h = absurd (true≢false (sym goes))
  receiving a (Recovers x body) goes h = absurd (true≢false (sym goes))
  receiving a (Slows x) goes h = absurd (true≢false (sym goes))
  receiving a Restarts goes h = absurd (true≢false (sym goes))

  -- who acts is an actor of the layout, or only comes back
  acting : (event : Event) (a : Actor) (act : Act) → act_of cluster earlier event ≡ Some act → MayStand cluster earlier a act event
      → IsIn a (actors cluster.layout) ⊎ (act ≡ Restarts)
  acting (BeginEvent txn) a act is place = inl (at_home cluster valid txn a place.0)
  acting (RecoverEvent txn) a act is place = inl (at_node cluster.layout a place.0)
  acting (SlowEvent txn) a act is place = inl (at_home cluster valid txn a place.0)
  acting (MessageEvent number) a act is place = inl (receiving a act place (act_routed (MessageEvent number) act is))
  acting (RestartEvent kept) a act is place = inr (sym (some_is Restarts act is))

  took_homed : (a : Actor) → TookHomed cluster.layout (taken_of cluster a earlier)
  took_homed a =
      each_standing (λ (step : Taken). IsHomed cluster.layout (id_of step.message) (ballot_of step.message)) (taken_of cluster a earlier)
      (λ step past at.
      let s = store_step cluster a earlier each step past at in
      (routes.messages step.message (Sending-past s.earlier earlier step.message (earlier_is_past (Step s.entry) s.earlier earlier s.at) s.sending)).home)

  restart_emits_none : (b : Bool) (a : Actor) (past : List Deed) → (emits_by b cluster a past Restarts) ≡ record { notes = []; out = [] }
  restart_emits_none true a past = refl
  restart_emits_none false a past = refl

  module _ (e : Entry) (s : StandsOn cluster earlier e) where
    abbrev past : List Deed
    past = deeds_of cluster e.actor earlier

    standing : EachStands cluster (Step e ∷ earlier)
    standing = (s, each)

    actor_or_none : IsIn e.actor (actors cluster.layout) ⊎ (e.emitted ≡ record { notes = []; out = [] })
    actor_or_none =
        ⊎_elim inl
        (λ restarts. inr (s.emitted ∙ ap (emits_by (is_node e.actor) cluster e.actor past) restarts ∙ restart_emits_none (is_node e.actor) e.actor past))
        (acting e.event e.actor s.act s.act_is s.place)

    -- ---- ids that it begins

    begun_by : (b : Bool) → is_node e.actor ≡ b → IsIn e.actor (actors cluster.layout) → (x : TxnId) → IsIn x (flat_map begun_in (emits_by b cluster e.actor past s.act).notes)
        → IsIn (home_node x) (actors cluster.layout)
    begun_by true is actor x there =
        let n = IsIn-flat_map begun_in x (emits_by true cluster e.actor past s.act).notes there in
        subst (λ a. IsIn a (actors cluster.layout))
        (sym (begun_home cluster.layout (node_of e.actor) (clock_start cluster.starts (node_of e.actor)) past s.act n.source x
        (node_notes cluster.layout (node_of e.actor) (clock_start cluster.starts (node_of e.actor)) past s.act n.source n.there) n.within
        ∙ node_is_actor e.actor is)) actor
    begun_by false is actor x there =
        absurd (none_is_in x (subst (λ notes. IsIn x (flat_map begun_in notes)) (store_notes_none cluster.layout e.actor (taken_from past) s.act) there))

    begun_here : (x : TxnId) → IsIn x (flat_map begun_in e.emitted.notes) → IsIn (home_node x) (actors cluster.layout)
    begun_here x there =
        ⊎_elim
        (λ actor. begun_by (is_node e.actor) refl actor x (subst (λ (k : Emitted). IsIn x (flat_map begun_in k.notes)) s.emitted there))
        (λ none. absurd (none_is_in x (subst (λ (k : Emitted). IsIn x (flat_map begun_in k.notes)) none there)))
        actor_or_none

    pub begun_now : (x : TxnId) → IsIn x (begun_of (Step e ∷ earlier)) → IsIn (home_node x) (actors cluster.layout)
    begun_now x there = ⊎_elim (begun_here x) (routes.begun x) (IsIn-append_cases x (flat_map begun_in e.emitted.notes) (begun_of earlier) there)

    -- ---- messages that it sends

    by_node : (m : Message) → is_node e.actor ≡ true → IsIn e.actor (actors cluster.layout) → Sending (Step e ∷ earlier) m
        → IsIn m (emits_by true cluster e.actor past s.act).out → IsRouted cluster.layout m
    by_node m is actor sending there =
        let node = node_of e.actor in
        let start = clock_start cluster.starts (node_of e.actor) in
        let from : from_of m ≡ e.actor = node_from cluster.layout node start past s.act m (node_sends cluster.layout node start past s.act m there) ∙ node_is_actor e.actor is in
        let of_node : is_node (from_of m) ≡ true = subst (λ a. is_node a ≡ true) (sym from) is in
        let from_in : IsIn (from_of m) (actors cluster.layout) = subst (λ a. IsIn a (actors cluster.layout)) (sym from) actor in
        let stage = stage_of cluster valid (Step e ∷ earlier) standing in
        record {
          from = from_in;
          to =
              ⊎_elim (λ known. known)
              (λ informs. subst (λ a. IsIn a (actors cluster.layout)) (sym informs) (begun_now (id_of m) (stage.messages m sending).id.there))
              (node_directed cluster.layout valid.layout node start past s.act m there);
          home = subst (λ a. IsIn a (actors cluster.layout)) (homes_are_one cluster (Step e ∷ earlier) standing m sending of_node) from_in;
          asked = λ store. of_node;
        }

    by_store : (m : Message) → IsIn e.actor (actors cluster.layout) → (act : Act) → IsRoutedAct act
        → IsIn m (store_emits cluster.layout e.actor (taken_from past) act).out → IsRouted cluster.layout m
    by_store m actor (Takes taken) h there =
        store_routed cluster.layout e.actor (taken_from past) taken m actor (took_homed e.actor) h.home (store_sends cluster.layout e.actor (taken_from past) taken m there)
    by_store m actor (Begins txn body) h there = absurd (none_is_in m there)
    by_store m actor (Recovers x body) h there = absurd (none_is_in m there)
    by_store m actor (Slows x) h there = absurd (none_is_in m there)
    by_store m actor Restarts h there = absurd (none_is_in m there)

    by_kind : (m : Message) (b : Bool) → is_node e.actor ≡ b → IsIn e.actor (actors cluster.layout) → Sending (Step e ∷ earlier) m
        → IsIn m (emits_by b cluster e.actor past s.act).out → IsRouted cluster.layout m
    by_kind m true is actor sending there = by_node m is actor sending there
    by_kind m false is actor sending there = by_store m actor s.act (act_routed e.event s.act s.act_is) there

    new_message : (m : Message) → Sending (Step e ∷ earlier) m → IsIn m e.emitted.out → IsRouted cluster.layout m
    new_message m sending there =
        ⊎_elim
        (λ actor. by_kind m (is_node e.actor) refl actor sending (subst (λ (k : Emitted). IsIn m k.out) s.emitted there))
        (λ none. absurd (none_is_in m (subst (λ (k : Emitted). IsIn m k.out) none there)))
        actor_or_none

    pub step_routes : Routes cluster (Step e ∷ earlier)
    step_routes = record {
      messages = λ m sending. ⊎_elim (new_message m sending) (routes.messages m) (sending_cases (Step e) earlier m sending);
      begun = begun_now;
    }

-- an item that no actor steps in
idle_routes : (cluster : Cluster) (item : Item) (earlier : List Item) → sent_in item ≡ [] → noted_in item ≡ [] → Routes cluster earlier → Routes cluster (item ∷ earlier)
idle_routes cluster item earlier silent noteless routes = record {
  messages = λ m sending.
      ⊎_elim (λ here. absurd (none_is_in m (subst (IsIn m) silent here))) (routes.messages m) (sending_cases item earlier m sending);
  begun = λ x there.
      ⊎_elim (λ here. absurd (none_is_in x (subst (λ notes. IsIn x (flat_map begun_in notes)) noteless here))) (routes.begun x)
      (IsIn-append_cases x (flat_map begun_in (noted_in item)) (begun_of earlier) there);
}

no_sending : (m : Message) → Sending [] m → ⊥
no_sending m s = elim s.at [ ]

pub routes_of : (cluster : Cluster) → IsValidCluster cluster → (items : List Item) → EachStands cluster items → Routes cluster items
routes_of cluster valid [] h = record { messages = λ m sending. absurd (no_sending m sending); begun = λ x there. absurd (none_is_in x there) }
routes_of cluster valid (Step e ∷ earlier) h = step_routes cluster valid earlier h.1 (routes_of cluster valid earlier h.1) e h.0
routes_of cluster valid (Skipped step cause ∷ earlier) h = idle_routes cluster (Skipped step cause) earlier refl refl (routes_of cluster valid earlier h.1)
routes_of cluster valid (Down actor ∷ earlier) h = idle_routes cluster (Down actor) earlier refl refl (routes_of cluster valid earlier h.1)

-- ---- messages by their numbers

pub routed : (cluster : Cluster) (items : List Item) (number : ℕ) (m : Message) → IsStanding cluster items → message_at items number ≡ Some m → IsRouted cluster.layout m
routed cluster items number m standing found =
    (routes_of cluster standing.valid items standing.stands).messages m (sent_is_sending items m (get_is_in (sent_of items) number m found))

pub goes_to_actor : (cluster : Cluster) (items : List Item) (number : ℕ) (m : Message) → IsStanding cluster items → message_at items number ≡ Some m
    → Contains (actors cluster.layout) (to_of m)
goes_to_actor cluster items number m standing found = IsIn-Contains (to_of m) (actors cluster.layout) (routed cluster items number m standing found).to

pub comes_from_actor : (cluster : Cluster) (items : List Item) (number : ℕ) (m : Message) → IsStanding cluster items → message_at items number ≡ Some m
    → Contains (actors cluster.layout) (from_of m)
comes_from_actor cluster items number m standing found = IsIn-Contains (from_of m) (actors cluster.layout) (routed cluster items number m standing found).from
