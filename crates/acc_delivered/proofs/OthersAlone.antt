-- A round starts one attempt and no other, and ends or blocks none of another transaction.
use Rattle.std.proofs.Common.{◌≡◌, ℕ, Bool, true, false, ◌&&◌, ◌||◌, List, [], ◌∷◌, ◌++◌, Some, refl, sym, ◌∙◌, ap, subst, ⊎_elim}
use Rattle.std.specs.List.{list_any}
use Rattle.std.proofs.lemmas.Bool.{true≢false, and_parts, false_from_ne_true}
use Rattle.std.proofs.lemmas.List.{append_assoc, append-nil}
use Rattle.std.proofs.lemmas.List.Folds.{list_any-append}
use Rattle.acc_stamp.specs.declared.stamps.TxnId.{TxnId}
use Rattle.acc_stamp.specs.declared.stamps.Ballot.{Ballot}
use Rattle.acc_stamp.specs.declared.actors.Actor.{Actor}
use Rattle.acc_stamp.specs.Actor.{node_of}
use Rattle.acc_stamp.specs.Stamp.{id_eq, ballot_eq}
use Rattle.acc_stamp.proofs.Order.{id_order}
use Rattle.acc_topology.specs.Layout.{Layout}
use Rattle.acc_deps.specs.declared.records.Settled.{Settled}
use Rattle.acc_message.specs.declared.message.Message.{Message}
use Rattle.acc_message.specs.declared.entry.Entry.{Entry}
use Rattle.acc_message.specs.declared.entry.Emitted.{Emitted}
use Rattle.acc_message.specs.declared.item.Item.{Item}
use Rattle.acc_message.specs.declared.item.Item.TheVariants.{Step}
use Rattle.acc_message.specs.declared.note.Note.{Note}
use Rattle.acc_message.specs.declared.note.Note.TheVariants.{Begin as BeginNote, Recover as RecoverNote, Blocked, Ended, Decide as DecideNote, Outcome as OutcomeNote, Reply as ReplyNote}
use Rattle.acc_message.specs.Fields.{from_of, id_of}
use Rattle.acc_message.specs.Items.{noted_in, notes_of, same_actor, message_at, begins}
use Rattle.acc_message.specs.Shares.{is_store_of}
use Rattle.acc_message.specs.Attempts.{Attempt, Phase, Recovering, Executing, fits}
use Rattle.acc_message.specs.Coordinator.{with_answer}
use Rattle.acc_message.specs.NodeRules.{Act, Begins, Recovers, Slows, Takes, Deed}
use Rattle.acc_message.specs.Run.{Cluster, clock_start, act_of, deeds_of, is_node, emits_by, is_restart_event, StandsOn}
use Rattle.acc_safety.specs.Places.{IsIn, First, Later, StandsAt, IsPast}
use Rattle.acc_safety.specs.NodeMoves.{BlockBy, EndBy, IsBlocked, Hears, Counts, IsEnded, Reacts, ToSlow, ToMessage, NodeNotes, NotesBegin, NotesRecover, NotesDecision, NotesOutcome, NotesReply, NotesTold, NotesBlocked, NotesEnded}
use Rattle.acc_safety.specs.Valid.{IsStanding}
use Rattle.acc_safety.proofs.PlaceOrder.{none_is_in, IsIn-append_cases, IsIn-append_left, only}
use Rattle.acc_safety.proofs.Bridge.{stands_at}
use Rattle.acc_safety.proofs.NodeSent.{node_notes}
use Rattle.acc_safety.proofs.Frame.{past_of}
use Rattle.acc_calm.proofs.Delivered.{mapped, place_of, all_in}
use Rattle.acc_delivered.specs.Rounds.{is_taking, is_delivery, IsRound}
use Rattle.acc_delivered.specs.Ends.{starts, disturbs, IsAttempt, tells_ended, tells_blocked, is_ended, is_blocked}
use Rattle.acc_delivered.specs.Laws.{is_read_or_later, RoundsSendTheirOwn, RoundsStartOne, RoundsLeaveOthersAlone}
use Rattle.acc_delivered.proofs.Deliveries.{place_append}
use Rattle.acc_delivered.proofs.RoundsOwn.{unread_fit, taking_event, delivered_step}
use Rattle.acc_delivered.proofs.Refusals.{never_ends}
use Rattle.acc_delivered.proofs.Seconds.{taken_own}

-- ---- lists of notes

pub notes_append : (later base : List Item) → notes_of (later ++ base) ≡ notes_of base ++ notes_of later
notes_append [] base = sym (append-nil (notes_of base))
notes_append (item ∷ later) base =
    ap (λ ns. ns ++ noted_in item) (notes_append later base) ∙ append_assoc (notes_of base) (notes_of later) (noted_in item)

both_none : (a b : Bool) → a ≡ false → b ≡ false → (a || b) ≡ false
both_none true b f g = absurd (true≢false f)
both_none false b f g = g

-- an event that neither restarts nor starts
quiet : (o p q : Bool) → p ≡ false → q ≡ false → (o && (p || q)) ≡ false
quiet false p q f g = refl
quiet true p q f g = both_none p q f g

pub none_both : {T : Type 0} (test : T → Bool) (xs ys : List T) → list_any test xs ≡ false → list_any test ys ≡ false → list_any test (xs ++ ys) ≡ false
none_both test xs ys f g = list_any-append test xs ys ∙ both_none (list_any test xs) (list_any test ys) f g

-- no note of any of the items passes the test
notes_none : (test : Note → Bool) (items : List Item) → ((item : Item) → IsIn item items → list_any test (noted_in item) ≡ false) → list_any test (notes_of items) ≡ false
notes_none test [] each = refl
notes_none test (item ∷ items) each =
    none_both test (notes_of items) (noted_in item) (notes_none test items (λ k there. each k (Later k item items there))) (each item (First item items))

none_any : {T : Type 0} (test : T → Bool) (xs : List T) → ((x : T) → IsIn x xs → test x ≡ false) → list_any test xs ≡ false
none_any test [] each = refl
none_any test (x ∷ xs) each = both_none (test x) (list_any test xs) (each x (First x xs)) (none_any test xs (λ k there. each k (Later k x xs there)))

-- ---- what a node notes when it takes a message

taking_starts_none : (layout : Layout) (node start : ℕ) (past : List Deed) (y : TxnId) (act : Act) (m : Message) (note : Note) → act ≡ Takes m
    → NodeNotes layout node start past act note → starts y note ≡ false
taking_starts_none layout node start past y act m note is (NotesBegin txn body) = absurd (no_begin is)
  where
    no_begin : Begins txn body ≡ Takes m → ⊥
    no_begin e = cc
taking_starts_none layout node start past y act m note is (NotesRecover x body) = absurd (no_recover is)
  where
    no_recover : Recovers x body ≡ Takes m → ⊥
    no_recover e = cc
taking_starts_none layout node start past y act m note is (NotesDecision on x a path s reacts) = refl
taking_starts_none layout node start past y act m note is (NotesOutcome on x a s outcome reacts) = refl
taking_starts_none layout node start past y act m note is (NotesReply on x a s outcome reacts client) = refl
taking_starts_none layout node start past y act m note is (NotesTold from to x b outcome client) = refl
taking_starts_none layout node start past y act m note is (NotesBlocked on x a by reacts) = refl
taking_starts_none layout node start past y act m note is (NotesEnded on x a by reacts) = refl

begins_starts : (y : TxnId) (note : Note) → starts y note ≡ false → begins y note ≡ false
begins_starts y (BeginNote id) h = h
begins_starts y (RecoverNote id ballot) h = refl
begins_starts y (Blocked id ballot by) h = refl
begins_starts y (Ended id ballot by) h = refl
begins_starts y (DecideNote id t path deps) h = refl
begins_starts y (OutcomeNote id reply) h = refl
begins_starts y (ReplyNote id reply) h = refl

no_execution : (p : Phase) → p ≡ Recovering → (s : Settled) → p ≡ Executing s → ⊥
no_execution p is s executes = apart (sym is ∙ executes)
  where
    apart : Recovering ≡ Executing s → ⊥
    apart e = cc

-- a note that ends or blocks an attempt comes of a message about its transaction, which answers no read
ends_by_own : (layout : Layout) (x : TxnId) (before : Attempt) (m : Message) (a : Attempt) (by : Ballot) → Hears layout x before m a (EndBy by) → is_read_or_later m ≡ false
ends_by_own layout x before m a by (Counts n moved same counting moves) = absurd (never_ends layout x (with_answer before n) by moves)
ends_by_own layout x before m a by (IsEnded from to id ballot promised same above) = refl

blocks_by_own : (layout : Layout) (x : TxnId) (before : Attempt) (m : Message) (a : Attempt) (by : List TxnId) → Hears layout x before m a (BlockBy by) → is_read_or_later m ≡ false
blocks_by_own layout x before m a by (Counts n moved same counting (IsBlocked ids phase major)) =
    unread_fit before.phase n
    (and_parts (fits before.phase n) (is_store_of layout before.body (from_of n)) (and_parts (fits before.phase n && is_store_of layout before.body (from_of n)) _ counting).0).0
    (no_execution before.phase phase)

-- the note is of the taken message's transaction
pub record NotedOf (m : Message) (y : TxnId) : Type 0 where
  pub unread : is_read_or_later m ≡ false
  pub about : id_of m ≡ y

same_message : (n m : Message) → Takes n ≡ Takes m → n ≡ m
same_message n m e = cc

ended_of : (layout : Layout) (node start : ℕ) (past : List Deed) (y : TxnId) (act : Act) (m : Message) (a : Attempt) (by : Ballot) → act ≡ Takes m
    → Reacts layout node start past y act a (EndBy by) → NotedOf m y
ended_of layout node start past y act m a by is (ToMessage before j n moved at about hears) =
    subst (λ k. NotedOf k y) (same_message n m is) (record { unread = ends_by_own layout y before n j by hears; about = about })
ended_of layout node start past y act m a by is (ToSlow j moved at moves) = absurd (never_ends layout y j by moves)

blocked_of : (layout : Layout) (node start : ℕ) (past : List Deed) (y : TxnId) (act : Act) (m : Message) (a : Attempt) (by : List TxnId) → act ≡ Takes m
    → Reacts layout node start past y act a (BlockBy by) → NotedOf m y
blocked_of layout node start past y act m a by is (ToMessage before j n moved at about hears) =
    subst (λ k. NotedOf k y) (same_message n m is) (record { unread = blocks_by_own layout y before n j by hears; about = about })
blocked_of layout node start past y act m a by is (ToSlow j moved at moves) = absurd (slow_takes is)
  where
    slow_takes : Slows y ≡ Takes m → ⊥
    slow_takes e = cc

abbrev tells_over : TxnId → Note → Bool
tells_over y (Ended id ballot by) = id_eq id y
tells_over y (Blocked id ballot by) = id_eq id y
tells_over y _ = false

over_of : (layout : Layout) (node start : ℕ) (past : List Deed) (y : TxnId) (act : Act) (m : Message) (note : Note) → act ≡ Takes m → NodeNotes layout node start past act note
    → tells_over y note ≡ true → NotedOf m y
over_of layout node start past y act m note is (NotesBegin txn body) h = absurd (true≢false (sym h))
over_of layout node start past y act m note is (NotesRecover x body) h = absurd (true≢false (sym h))
over_of layout node start past y act m note is (NotesDecision on x a path s reacts) h = absurd (true≢false (sym h))
over_of layout node start past y act m note is (NotesOutcome on x a s outcome reacts) h = absurd (true≢false (sym h))
over_of layout node start past y act m note is (NotesReply on x a s outcome reacts client) h = absurd (true≢false (sym h))
over_of layout node start past y act m note is (NotesTold from to x b outcome client) h = absurd (true≢false (sym h))
over_of layout node start past y act m note is (NotesBlocked on x a by reacts) h =
    let r = blocked_of layout node start past x on m a by is reacts in record { unread = r.unread; about = r.about ∙ (id_order.decides x y).0 h }
over_of layout node start past y act m note is (NotesEnded on x a by reacts) h =
    let r = ended_of layout node start past x on m a by is reacts in record { unread = r.unread; about = r.about ∙ (id_order.decides x y).0 h }

-- ---- a delivery

module _ (cluster : Cluster) (items earlier : List Item) (t : Entry) (h : StandsOn cluster earlier t) (m : Message) (act_is : h.act ≡ Takes m) where
  noted_by_node : (note : Note) → IsIn note t.emitted.notes → (is_node t.actor ≡ true)
      × NodeNotes cluster.layout (node_of t.actor) (clock_start cluster.starts (node_of t.actor)) (deeds_of cluster t.actor earlier) (Takes m) note
  noted_by_node note there = by (is_node t.actor) refl
    where
      emitted_is : t.emitted ≡ emits_by (is_node t.actor) cluster t.actor (deeds_of cluster t.actor earlier) (Takes m)
      emitted_is = h.emitted ∙ ap (emits_by (is_node t.actor) cluster t.actor (deeds_of cluster t.actor earlier)) act_is

      by : (o : Bool) → is_node t.actor ≡ o → (is_node t.actor ≡ true)
          × NodeNotes cluster.layout (node_of t.actor) (clock_start cluster.starts (node_of t.actor)) (deeds_of cluster t.actor earlier) (Takes m) note
      by true node = (
        node,
        node_notes cluster.layout (node_of t.actor) (clock_start cluster.starts (node_of t.actor)) (deeds_of cluster t.actor earlier) (Takes m) note
            (subst (λ o. IsIn note (emits_by o cluster t.actor (deeds_of cluster t.actor earlier) (Takes m)).notes) node (subst (λ (w : Emitted). IsIn note w.notes) emitted_is there)),
      )
      by false store =
          absurd (none_is_in note
          (subst (λ o. IsIn note (emits_by o cluster t.actor (deeds_of cluster t.actor earlier) (Takes m)).notes) store (subst (λ (w : Emitted). IsIn note w.notes) emitted_is there)))

-- ---- a round

module _ (cluster : Cluster) (a : Actor) (x : TxnId) (b : Ballot) (base later : List Item) (standing : IsStanding cluster (later ++ base)) (round : IsRound a x b base later) where
  -- each item is the recover or a delivery
  record Delivery (item : Item) : Type 0 where
    pub entry : Entry
    pub earlier : List Item
    pub message : Message
    pub is : item ≡ Step entry
    pub taking : is_taking entry.event ≡ true
    pub stands : StandsOn cluster earlier entry
    pub act_is : stands.act ≡ Takes message
    pub within : IsPast earlier (later ++ base)

  data Part (item : Item) : Type 0 where
    Recovering_it : item ≡ Step round.entry → Part item
    Delivering : Delivery item → Part item

  delivery_of : (item : Item) → IsIn item later → IsIn item round.deliveries → Delivery item
  delivery_of item there inside =
      let k = delivered_step item (all_in is_delivery round.deliveries item round.only inside) in
      let place = place_of item later there in
      let at = subst (λ i. StandsAt i (place.0 ++ base) (later ++ base)) k.1 (place_append item place.0 later base place.1) in
      let on : StandsOn cluster (place.0 ++ base) k.0 = stands_at cluster (later ++ base) (place.0 ++ base) k.0 at standing.stands in
      let event = taking_event k.0.event k.2 in
      let found = mapped (message_at (place.0 ++ base) event.0) on.act (subst (λ w. act_of cluster (place.0 ++ base) w ≡ Some on.act) event.1 on.act_is) in
      record {
        entry = k.0;
        earlier = place.0 ++ base;
        message = found.0;
        is = k.1;
        taking = k.2;
        stands = on;
        act_is = found.1.1;
        within = past_of (Step k.0) (place.0 ++ base) (later ++ base) at;
      }

  part_of : (item : Item) → IsIn item later → Part item
  part_of item there =
      ⊎_elim (λ inside. Delivering (delivery_of item there inside)) (λ last. Recovering_it (only item (Step round.entry) last))
      (IsIn-append_cases item round.deliveries (Step round.entry ∷ []) (subst (IsIn item) round.items_are there))

  delivery_starts : (item : Item) → Delivery item → (y : TxnId) → list_any (starts y) (noted_in item) ≡ false
  delivery_starts item d y =
      ap (λ i. list_any (starts y) (noted_in i)) d.is
      ∙ none_any (starts y) d.entry.emitted.notes (λ note noted.
      let n = noted_by_node cluster (later ++ base) d.earlier d.entry d.stands d.message d.act_is note noted in
      taking_starts_none cluster.layout (node_of d.entry.actor) (clock_start cluster.starts (node_of d.entry.actor)) (deeds_of cluster d.entry.actor d.earlier) y (Takes d.message) d.message note refl n.1)

  starts_of : (y : TxnId) (item : Item) → IsIn item later → id_eq x y ≡ false → list_any (starts y) (noted_in item) ≡ false
  starts_of y item there other = by (part_of item there)
    where
      by : Part item → list_any (starts y) (noted_in item) ≡ false
      by (Recovering_it is) = ap (λ i. list_any (starts y) (noted_in i)) is ∙ ap (list_any (starts y)) round.recover.noted ∙ both_none (id_eq x y) false other refl
      by (Delivering d) = delivery_starts item d y

  begins_of : (y : TxnId) (item : Item) → IsIn item later → list_any (begins y) (noted_in item) ≡ false
  begins_of y item there = by (part_of item there)
    where
      by : Part item → list_any (begins y) (noted_in item) ≡ false
      by (Recovering_it is) = ap (λ i. list_any (begins y) (noted_in i)) is ∙ ap (list_any (begins y)) round.recover.noted
      by (Delivering d) =
          ap (λ i. list_any (begins y) (noted_in i)) d.is
          ∙ none_any (begins y) d.entry.emitted.notes (λ note noted.
          let n = noted_by_node cluster (later ++ base) d.earlier d.entry d.stands d.message d.act_is note noted in
          begins_starts y note
          (taking_starts_none cluster.layout (node_of d.entry.actor) (clock_start cluster.starts (node_of d.entry.actor)) (deeds_of cluster d.entry.actor d.earlier) y (Takes d.message) d.message note refl n.1))

  event_quiet : (item : Item) → Part item → (c : Actor) (y : TxnId) → list_any (starts y) (noted_in item) ≡ false → disturbs c y item ≡ false
  event_quiet item (Recovering_it is) c y none =
      ap (disturbs c y) is ∙ quiet (same_actor round.entry.actor c) (is_restart_event round.entry.event) (list_any (starts y) round.entry.emitted.notes) (ap is_restart_event round.recover.event_is) (subst (λ i. list_any (starts y) (noted_in i) ≡ false) is none)
  event_quiet item (Delivering d) c y none =
      ap (disturbs c y) d.is ∙ quiet (same_actor d.entry.actor c) (is_restart_event d.entry.event) (list_any (starts y) d.entry.emitted.notes) (ap is_restart_event (taking_event d.entry.event d.taking).1) (subst (λ i. list_any (starts y) (noted_in i) ≡ false) d.is none)

  in_later : (item : Item) → IsIn item round.deliveries → IsIn item later
  in_later item there = subst (IsIn item) (sym round.items_are) (IsIn-append_left item round.deliveries (Step round.entry ∷ []) there)

  pub starts_attempt : IsAttempt a x b later
  starts_attempt =
      record {
        entry = round.entry;
        since = round.deliveries;
        items_are = round.items_are;
        recover = round.recover;
        alone = none_any (disturbs a x) round.deliveries (λ item there.
            let d = delivery_of item (in_later item there) there in event_quiet item (Delivering d) a x (delivery_starts item d x));
      }

  pub begins_none : (y : TxnId) → list_any (begins y) (notes_of later) ≡ false
  begins_none y = notes_none (begins y) later (begins_of y)

  pub disturbs_none : (c : Actor) (y : TxnId) → id_eq x y ≡ false → list_any (disturbs c y) later ≡ false
  disturbs_none c y other = none_any (disturbs c y) later (λ item there. event_quiet item (part_of item there) c y (starts_of y item there other))

  -- ---- notes that an attempt is over

  module _ (own : RoundsSendTheirOwn cluster) (y : TxnId) (other : id_eq x y ≡ false) where
    over_none : (item : Item) → IsIn item later → (note : Note) → IsIn note (noted_in item) → tells_over y note ≡ false
    over_none item there note noted = by (part_of item there)
      where
        recovered : (n : Note) → IsIn n (RecoverNote x b ∷ []) → tells_over y n ≡ false
        recovered n k = ap (tells_over y) (only n (RecoverNote x b) k)

        by : Part item → tells_over y note ≡ false
        by (Recovering_it is) = recovered note (subst (IsIn note) (ap noted_in is ∙ round.recover.noted) noted)
        by (Delivering d) =
            false_from_ne_true (tells_over y note)
            (λ tells.
            let n = noted_by_node cluster (later ++ base) d.earlier d.entry d.stands d.message d.act_is note (subst (λ i. IsIn note (noted_in i)) d.is noted) in
            let k = over_of cluster.layout (node_of d.entry.actor) (clock_start cluster.starts (node_of d.entry.actor)) (deeds_of cluster d.entry.actor d.earlier) y (Takes d.message) d.message note refl n.1 tells in
            let s = taken_own cluster base later (later ++ base) d.entry d.earlier d.message d.within (subst (λ i. IsIn i later) d.is there) round.own (d.stands.act_is ∙ ap Some d.act_is) in
            ⊎_elim (λ read. true≢false (sym read ∙ k.unread)) (λ mine. true≢false (sym ((id_order.decides x y).1 (sym mine.0 ∙ k.about)) ∙ other)) (own a x b base later d.message standing round s))

    over_is : (c : Ballot) (note : Note) → tells_over y note ≡ false → (tells_ended y c note ≡ false) × (tells_blocked y c note ≡ false)
    over_is c (Ended id ballot by) h = (ap (λ o. o && ballot_eq ballot c) h, refl)
    over_is c (Blocked id ballot by) h = (refl, ap (λ o. o && ballot_eq ballot c) h)
    over_is c (BeginNote id) h = (refl, refl)
    over_is c (RecoverNote id ballot) h = (refl, refl)
    over_is c (DecideNote id t path deps) h = (refl, refl)
    over_is c (OutcomeNote id reply) h = (refl, refl)
    over_is c (ReplyNote id reply) h = (refl, refl)

    pub none_over : (c : Ballot) → (is_ended y c base ≡ false → is_ended y c (later ++ base) ≡ false) × (is_blocked y c base ≡ false → is_blocked y c (later ++ base) ≡ false)
    none_over c = (
      λ before. ap (list_any (tells_ended y c)) (notes_append later base)
          ∙ none_both (tells_ended y c) (notes_of base) (notes_of later) before
          (notes_none (tells_ended y c) later (λ item there. none_any (tells_ended y c) (noted_in item) (λ note noted. (over_is c note (over_none item there note noted)).0))),
      λ before. ap (list_any (tells_blocked y c)) (notes_append later base)
          ∙ none_both (tells_blocked y c) (notes_of base) (notes_of later) before
          (notes_none (tells_blocked y c) later (λ item there. none_any (tells_blocked y c) (noted_in item) (λ note noted. (over_is c note (over_none item there note noted)).1))),
    )

pub rounds_start_one : (cluster : Cluster) → RoundsStartOne cluster
rounds_start_one cluster a x b base later standing round =
    record {
      attempt = starts_attempt cluster a x b base later standing round;
      begins_none = begins_none cluster a x b base later standing round;
      disturbs_none = disturbs_none cluster a x b base later standing round;
    }

pub rounds_leave_others_alone : (cluster : Cluster) → RoundsSendTheirOwn cluster → RoundsLeaveOthersAlone cluster
rounds_leave_others_alone cluster own a x b base later y c standing round other = none_over cluster a x b base later standing round own y other c
