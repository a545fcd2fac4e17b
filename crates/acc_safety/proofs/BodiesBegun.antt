-- Every message brings the body with which its transaction was begun, and comes from the home of its ballot.
use Rattle.std.proofs.Common.{◌≡◌, ℕ, true, false, cond, List, [], ◌∷◌, ◌++◌, Option, None, Some, refl, sym, ◌∙◌, ap, subst, ⊎_elim}
use Rattle.std.specs.List.{list_any, slice_get, flat_map}
use Rattle.std.specs.Option.{option_map}
use Rattle.std.proofs.lemmas.Bool.{true≢false, or_left, or_right, or_cases, or_parts, eqb-true, cond_both}
use Rattle.acc_base.specs.Faults.{or_else}
use Rattle.acc_stamp.specs.declared.stamps.Stamp.{Stamp}
use Rattle.acc_stamp.specs.declared.stamps.TxnId.{TxnId}
use Rattle.acc_stamp.specs.declared.actors.Actor.{Actor}
use Rattle.acc_stamp.specs.Actor.{node_of}
use Rattle.acc_stamp.specs.Stamp.{stamp_eq}
use Rattle.acc_stamp.specs.Rising.{is_among}
use Rattle.acc_stamp.proofs.Order.{stamp_order, id_order, eq_itself}
use Rattle.acc_stamp.proofs.Rising.{is_among-append}
use Rattle.acc_stamp.proofs.History.{draws_rise, draws_are_of_node}
use Rattle.acc_txn.specs.declared.parts.BodyParts.{BodyParts}
use Rattle.acc_message.specs.declared.message.Message.{Message}
use Rattle.acc_message.specs.declared.note.Note.{Note}
use Rattle.acc_message.specs.declared.note.Note.TheVariants.{Begin as BeginNote, Recover as RecoverNote, Blocked, Ended, Decide, Outcome as OutcomeNote, Reply as ReplyNote}
use Rattle.acc_message.specs.declared.entry.Emitted.{Emitted}
use Rattle.acc_message.specs.declared.entry.Entry.{Entry}
use Rattle.acc_message.specs.declared.entry.Event.{Event}
use Rattle.acc_message.specs.declared.entry.Event.TheVariants.{Begin as BeginEvent, Recover as RecoverEvent, Slow as SlowEvent, Message as MessageEvent, Restart as RestartEvent}
use Rattle.acc_message.specs.declared.item.Item.{Item}
use Rattle.acc_message.specs.declared.item.Item.TheVariants.{Step, Skipped, Down}
use Rattle.acc_message.specs.Items.{noted_in, begins, id_drawn, event_begins, txn_begun, id_begun, id_of_txn, txn_in, txn_of, message_at}
use Rattle.acc_message.specs.Attempts.{Attempt}
use Rattle.acc_message.specs.NodeRules.{Begins, Recovers, Slows, Takes, Restarts, Deed, next_id, attempt_of, node_emits}
use Rattle.acc_message.specs.Run.{Cluster, clock_start, act_of, recovers, deeds_of, is_node, EachStands}
use Rattle.acc_actor_laws.proofs.Standing.{not_none}
use Rattle.acc_actor_laws.proofs.OpeningFacts.{some_is}
use Rattle.acc_safety.specs.Places.{IsIn, First, Later, StandsAt, Here, Back, IsPast}
use Rattle.acc_safety.specs.RunLaws.{drawn_in, drawn_of, AreDistinct}
use Rattle.acc_safety.specs.Decisions.{body_at}
use Rattle.acc_safety.specs.Polls.{IsBody}
use Rattle.acc_safety.specs.Attempted.{Origin, FromBegin, FromRecover}
use Rattle.acc_safety.proofs.PlaceOrder.{any_from, passing, StandsAt-whole, StandsAt-behind}
use Rattle.acc_safety.proofs.DrawFacts.{Clocks, stamps_are_drawn_once}
use Rattle.acc_safety.proofs.Bridge.{node_step, each_emits, emits_at}
use Rattle.acc_safety.proofs.Attempted.{origin_of}

-- ---- draws of a run

pub clocks : Clocks
clocks = record { rise = draws_rise; of_node = draws_are_of_node }

pub distinct_draws : (cluster : Cluster) (items : List Item) → EachStands cluster items → AreDistinct (drawn_of items)
distinct_draws cluster items h = stamps_are_drawn_once clocks cluster items h

apart_behind : (front behind : List Stamp) (s : Stamp) → AreDistinct (front ++ behind) → is_among stamp_eq s front ≡ true → is_among stamp_eq s behind ≡ false
apart_behind [] behind s d h = absurd (true≢false (sym h))
apart_behind (t ∷ front) behind s d h =
    ⊎_elim
    (λ same.
    subst (λ z. is_among stamp_eq z behind ≡ false) ((stamp_order.decides t s).0 same)
    (or_parts (is_among stamp_eq t front) (is_among stamp_eq t behind) (sym (is_among-append stamp_eq t front behind) ∙ d.0)).1)
    (apart_behind front behind s d.1) (or_cases (stamp_eq t s) (is_among stamp_eq s front) h)

distinct_behind : (front behind : List Stamp) → AreDistinct (front ++ behind) → AreDistinct behind
distinct_behind [] behind d = d
distinct_behind (t ∷ front) behind d = distinct_behind front behind d.1

-- a note of a begin draws its id
note_draws : (x : TxnId) (notes : List Note) → IsIn (BeginNote x) notes → is_among stamp_eq x.0 (flat_map drawn_in notes) ≡ true
note_draws x notes (First note rest) = or_left (stamp_eq x.0 x.0) (is_among stamp_eq x.0 (flat_map drawn_in rest)) (eq_itself stamp_order x.0)
note_draws x notes (Later note other rest there) =
    is_among-append stamp_eq x.0 (drawn_in other) (flat_map drawn_in rest)
    ∙ or_right (is_among stamp_eq x.0 (drawn_in other)) (is_among stamp_eq x.0 (flat_map drawn_in rest)) (note_draws x rest there)

pub begins_is : (x : TxnId) (note : Note) → begins x note ≡ true → note ≡ BeginNote x
begins_is x (BeginNote id) h = ap BeginNote ((id_order.decides id x).0 h)
begins_is x (RecoverNote id ballot) h = absurd (true≢false (sym h))
begins_is x (Blocked id ballot by) h = absurd (true≢false (sym h))
begins_is x (Ended id ballot by) h = absurd (true≢false (sym h))
begins_is x (Decide id t path deps) h = absurd (true≢false (sym h))
begins_is x (OutcomeNote id reply) h = absurd (true≢false (sym h))
begins_is x (ReplyNote id reply) h = absurd (true≢false (sym h))

begins_drawn : (x : TxnId) (notes : List Note) → list_any (begins x) notes ≡ true → is_among stamp_eq x.0 (flat_map drawn_in notes) ≡ true
begins_drawn x notes h =
    let p = passing (begins x) notes h in
    note_draws x notes (subst (λ note. IsIn note notes) (begins_is x p.element p.passes) p.there)

drawn_there : (x : TxnId) (item : Item) (txn : ℕ) → txn_in x item ≡ Some txn → is_among stamp_eq x.0 (flat_map drawn_in (noted_in item)) ≡ true
drawn_there x (Step e) txn =
    cond_both (list_any (begins x) e.emitted.notes) (txn_begun e.event) None (λ o. o ≡ Some txn → is_among stamp_eq x.0 (flat_map drawn_in e.emitted.notes) ≡ true)
    (λ h _. begins_drawn x e.emitted.notes h) (λ _ is. absurd (not_none txn is))
drawn_there x (Skipped step cause) txn = λ is. absurd (not_none txn is)
drawn_there x (Down actor) txn = λ is. absurd (not_none txn is)

txn_drawn : (items : List Item) (x : TxnId) (txn : ℕ) → txn_of items x ≡ Some txn → is_among stamp_eq x.0 (drawn_of items) ≡ true
txn_drawn [] x txn is = absurd (not_none txn is)
txn_drawn (item ∷ earlier) x txn is = by (txn_of earlier x) refl is (txn_drawn earlier x)
  where
    by : (o : Option ℕ) → txn_of earlier x ≡ o → or_else o (txn_in x item) ≡ Some txn
        → ((t : ℕ) → txn_of earlier x ≡ Some t → is_among stamp_eq x.0 (drawn_of earlier) ≡ true)
        → is_among stamp_eq x.0 (flat_map drawn_in (noted_in item) ++ drawn_of earlier) ≡ true
    by None before now rest =
        is_among-append stamp_eq x.0 (flat_map drawn_in (noted_in item)) (drawn_of earlier)
        ∙ or_left (is_among stamp_eq x.0 (flat_map drawn_in (noted_in item))) (is_among stamp_eq x.0 (drawn_of earlier)) (drawn_there x item txn now)
    by (Some t) before now rest =
        is_among-append stamp_eq x.0 (flat_map drawn_in (noted_in item)) (drawn_of earlier)
        ∙ or_right (is_among stamp_eq x.0 (flat_map drawn_in (noted_in item))) (is_among stamp_eq x.0 (drawn_of earlier)) (rest t before)

-- ---- the number of a begun transaction

begins_itself : (x : TxnId) → begins x (BeginNote x) ≡ true
begins_itself x = eq_itself id_order x

txn_here : (x : TxnId) (txn : ℕ) (e : Entry) (earlier : List Item) → AreDistinct (drawn_of (Step e ∷ earlier)) → IsIn (BeginNote x) e.emitted.notes
    → txn_begun e.event ≡ Some txn → (o : Option ℕ) → txn_of earlier x ≡ o → or_else o (txn_in x (Step e)) ≡ Some txn
txn_here x txn e earlier d noted is None before =
    ap (λ b. cond b (txn_begun e.event) None) (any_from (begins x) (BeginNote x) e.emitted.notes noted (begins_itself x)) ∙ is
txn_here x txn e earlier d noted is (Some t) before =
    absurd (true≢false
    (sym (txn_drawn earlier x t before) ∙ apart_behind (flat_map drawn_in e.emitted.notes) (drawn_of earlier) x.0 d (note_draws x e.emitted.notes noted)))

pub txn_begun_there : (x : TxnId) (txn : ℕ) (e : Entry) (earlier items : List Item) → AreDistinct (drawn_of items) → StandsAt (Step e) earlier items
    → IsIn (BeginNote x) e.emitted.notes → txn_begun e.event ≡ Some txn → txn_of items x ≡ Some txn
txn_begun_there x txn e earlier items d at noted is = by (Step e) earlier items at refl d
  where
    by : (item : Item) (earlier items : List Item) → StandsAt item earlier items → item ≡ Step e → AreDistinct (drawn_of items) → txn_of items x ≡ Some txn
    by item earlier items (Here i past) same d =
        subst (λ j. or_else (txn_of past x) (txn_in x j) ≡ Some txn) (sym same)
        (txn_here x txn e past (subst (λ j. AreDistinct (flat_map drawn_in (noted_in j) ++ drawn_of past)) same d) noted is (txn_of past x) refl)
    by item earlier items (Back i j past rest there) same d =
        ap (λ o. or_else o (txn_in x j)) (by i past rest there same (distinct_behind (flat_map drawn_in (noted_in j)) (drawn_of rest) d))

-- ---- begins and recovers bring the begun body

begins_parts : (txn number : ℕ) (body other : BodyParts) → Begins txn body ≡ Begins number other → (txn ≡ number) × (body ≡ other)
begins_parts txn number body other e = (cc, cc)

mapped_begin : (number txn : ℕ) (body : BodyParts) (o : Option BodyParts) → option_map (Begins number) o ≡ Some (Begins txn body)
    → (number ≡ txn) × (o ≡ Some body)
mapped_begin number txn body None e = absurd (not_none (Begins txn body) e)
mapped_begin number txn body (Some other) e =
    let parts = begins_parts number txn other body (some_is (Begins number other) (Begins txn body) e) in (parts.0, ap Some parts.1)

begin_event : (cluster : Cluster) (earlier : List Item) (txn : ℕ) (body : BodyParts) (event : Event) → act_of cluster earlier event ≡ Some (Begins txn body)
    → (txn_begun event ≡ Some txn) × (slice_get cluster.bodies txn ≡ Some body)
begin_event cluster earlier txn body (BeginEvent number) is =
    let parts = mapped_begin number txn body (slice_get cluster.bodies number) is in
    (ap Some parts.0, ap (slice_get cluster.bodies) (sym parts.0) ∙ parts.1)
begin_event cluster earlier txn body (RecoverEvent number) is = absurd (recovered (id_of_txn earlier number) (slice_get cluster.bodies number) is)
  where
    recovered : (x : Option TxnId) (o : Option BodyParts) → recovers x o ≡ Some (Begins txn body) → ⊥
    recovered None o e = not_none (Begins txn body) e
    recovered (Some x) None e = not_none (Begins txn body) e
    recovered (Some x) (Some b) e = cc
begin_event cluster earlier txn body (SlowEvent number) is = absurd (slowed (id_of_txn earlier number) is)
  where
    slowed : (x : Option TxnId) → option_map Slows x ≡ Some (Begins txn body) → ⊥
    slowed None e = not_none (Begins txn body) e
    slowed (Some x) e = cc
begin_event cluster earlier txn body (MessageEvent number) is = absurd (taken (message_at earlier number) is)
  where
    taken : (m : Option Message) → option_map Takes m ≡ Some (Begins txn body) → ⊥
    taken None e = not_none (Begins txn body) e
    taken (Some m) e = cc
begin_event cluster earlier txn body (RestartEvent kept) is = absurd (restarted is)
  where
    restarted : Some Restarts ≡ Some (Begins txn body) → ⊥
    restarted e = cc

recovers_parts : (x y : TxnId) (body other : BodyParts) → Recovers x body ≡ Recovers y other → (x ≡ y) × (body ≡ other)
recovers_parts x y body other e = (cc, cc)

recovers_known : (x : TxnId) (body : BodyParts) (o : Option TxnId) (b : Option BodyParts) → recovers o b ≡ Some (Recovers x body) → (o ≡ Some x) × (b ≡ Some body)
recovers_known x body None b e = absurd (not_none (Recovers x body) e)
recovers_known x body (Some y) None e = absurd (not_none (Recovers x body) e)
recovers_known x body (Some y) (Some other) e =
    let parts = recovers_parts y x other body (some_is (Recovers y other) (Recovers x body) e) in (ap Some parts.0, ap Some parts.1)

-- the number of a recovered transaction
pub recover_event : (cluster : Cluster) (earlier : List Item) (x : TxnId) (body : BodyParts) (event : Event) → act_of cluster earlier event ≡ Some (Recovers x body)
    → (txn : ℕ) × (id_of_txn earlier txn ≡ Some x) × (slice_get cluster.bodies txn ≡ Some body)
recover_event cluster earlier x body (RecoverEvent number) is =
    let parts = recovers_known x body (id_of_txn earlier number) (slice_get cluster.bodies number) is in (number, parts.0, parts.1)
recover_event cluster earlier x body (BeginEvent number) is = absurd (begun (slice_get cluster.bodies number) is)
  where
    begun : (o : Option BodyParts) → option_map (Begins number) o ≡ Some (Recovers x body) → ⊥
    begun None e = not_none (Recovers x body) e
    begun (Some b) e = cc
recover_event cluster earlier x body (SlowEvent number) is = absurd (slowed (id_of_txn earlier number) is)
  where
    slowed : (y : Option TxnId) → option_map Slows y ≡ Some (Recovers x body) → ⊥
    slowed None e = not_none (Recovers x body) e
    slowed (Some y) e = cc
recover_event cluster earlier x body (MessageEvent number) is = absurd (taken (message_at earlier number) is)
  where
    taken : (m : Option Message) → option_map Takes m ≡ Some (Recovers x body) → ⊥
    taken None e = not_none (Recovers x body) e
    taken (Some m) e = cc
recover_event cluster earlier x body (RestartEvent kept) is = absurd (restarted is)
  where
    restarted : Some Restarts ≡ Some (Recovers x body) → ⊥
    restarted e = cc

-- the entry that begins a transaction, by its number and id
pub record BeginEntry (items : List Item) (txn : ℕ) (x : TxnId) : Type 0 where
  pub entry : Entry
  pub earlier : List Item
  pub at : StandsAt (Step entry) earlier items
  pub noted : IsIn (BeginNote x) entry.emitted.notes
  pub begins_it : txn_begun entry.event ≡ Some txn

drawn_is_in : (x : TxnId) (notes : List Note) → id_drawn notes ≡ Some x → IsIn (BeginNote x) notes
drawn_is_in x [] is = absurd (not_none x is)
drawn_is_in x (BeginNote id ∷ notes) is = subst (λ y. IsIn (BeginNote y) (BeginNote id ∷ notes)) (some_is id x is) (First (BeginNote id) notes)
drawn_is_in x (RecoverNote id ballot ∷ notes) is = Later (BeginNote x) (RecoverNote id ballot) notes (drawn_is_in x notes is)
drawn_is_in x (Blocked id ballot by ∷ notes) is = Later (BeginNote x) (Blocked id ballot by) notes (drawn_is_in x notes is)
drawn_is_in x (Ended id ballot by ∷ notes) is = Later (BeginNote x) (Ended id ballot by) notes (drawn_is_in x notes is)
drawn_is_in x (Decide id t path deps ∷ notes) is = Later (BeginNote x) (Decide id t path deps) notes (drawn_is_in x notes is)
drawn_is_in x (OutcomeNote id reply ∷ notes) is = Later (BeginNote x) (OutcomeNote id reply) notes (drawn_is_in x notes is)
drawn_is_in x (ReplyNote id reply ∷ notes) is = Later (BeginNote x) (ReplyNote id reply) notes (drawn_is_in x notes is)

begun_event : (txn : ℕ) (event : Event) → event_begins txn event ≡ true → txn_begun event ≡ Some txn
begun_event txn (BeginEvent number) h = ap Some (eqb-true number txn h)
begun_event txn (RecoverEvent number) h = absurd (true≢false (sym h))
begun_event txn (SlowEvent number) h = absurd (true≢false (sym h))
begun_event txn (MessageEvent number) h = absurd (true≢false (sym h))
begun_event txn (RestartEvent kept) h = absurd (true≢false (sym h))

begin_back : (item : Item) (earlier : List Item) (txn : ℕ) (x : TxnId) → BeginEntry earlier txn x → BeginEntry (item ∷ earlier) txn x
begin_back item earlier txn x b =
    record { entry = b.entry; earlier = b.earlier; at = Back (Step b.entry) item b.earlier earlier b.at; noted = b.noted; begins_it = b.begins_it }

begin_here : (item : Item) (earlier : List Item) (txn : ℕ) (x : TxnId) → id_begun txn item ≡ Some x → BeginEntry (item ∷ earlier) txn x
begin_here (Step e) earlier txn x =
    cond_both (event_begins txn e.event) (id_drawn e.emitted.notes) None (λ o. o ≡ Some x → BeginEntry (Step e ∷ earlier) txn x)
    (λ begun is. record { entry = e; earlier = earlier; at = Here (Step e) earlier; noted = drawn_is_in x e.emitted.notes is; begins_it = begun_event txn e.event begun })
    (λ _ is. absurd (not_none x is))
begin_here (Skipped step cause) earlier txn x = λ is. absurd (not_none x is)
begin_here (Down actor) earlier txn x = λ is. absurd (not_none x is)

pub begin_entry : (items : List Item) (txn : ℕ) (x : TxnId) → id_of_txn items txn ≡ Some x → BeginEntry items txn x
begin_entry [] txn x is = absurd (not_none x is)
begin_entry (item ∷ earlier) txn x is = by (id_of_txn earlier txn) refl is (begin_entry earlier txn)
  where
    by : (o : Option TxnId) → id_of_txn earlier txn ≡ o → or_else o (id_begun txn item) ≡ Some x
        → ((y : TxnId) → id_of_txn earlier txn ≡ Some y → BeginEntry earlier txn y) → BeginEntry (item ∷ earlier) txn x
    by None before now rest = begin_here item earlier txn x now
    by (Some y) before now rest = begin_back item earlier txn x (subst (BeginEntry earlier txn) (some_is y x now) (rest y before))

-- the body of a transaction with this number
body_by : (cluster : Cluster) (items : List Item) (x : TxnId) (txn : ℕ) (body : BodyParts) → txn_of items x ≡ Some txn
    → slice_get cluster.bodies txn ≡ Some body → IsBody cluster items x body
body_by cluster items x txn body is found = ap (body_at cluster) is ∙ found

module _ (cluster : Cluster) (items : List Item) (h : EachStands cluster items) (a : Actor) (node : is_node a ≡ true) where
  abbrev pub start : ℕ
  start = clock_start cluster.starts (node_of a)

  -- a begin of a node notes the id that it draws
  pub begin_noted : (deed : Deed) (past : List Deed) (txn : ℕ) (body : BodyParts) → StandsAt deed past (deeds_of cluster a items) → deed.act ≡ Begins txn body
      → deed.emitted.notes ≡ BeginNote (next_id (node_of a) start past) ∷ []
  begin_noted deed past txn body at is =
      ap (λ (e : Emitted). e.notes) (emits_at cluster.layout (node_of a) start (deeds_of cluster a items) deed past (each_emits cluster a items h node) at)
      ∙ ap (λ act. (node_emits cluster.layout (node_of a) start past act).notes) is

  pub begin_body : (deed : Deed) (past : List Deed) (txn : ℕ) (body : BodyParts) → StandsAt deed past (deeds_of cluster a items) → deed.act ≡ Begins txn body
      → IsBody cluster items (next_id (node_of a) start past) body
  begin_body deed past txn body at is =
      let n = node_step cluster a items h deed past at in
      let parts = begin_event cluster n.earlier txn body n.entry.event (n.act_is ∙ ap Some is) in
      let x : TxnId = next_id (node_of a) start past in
      let noted : IsIn (BeginNote x) n.entry.emitted.notes =
      subst (IsIn (BeginNote x)) (sym (ap (λ (e : Emitted). e.notes) n.emitted_is ∙ begin_noted deed past txn body at is)) (First (BeginNote x) []) in
      body_by cluster items x txn body (txn_begun_there x txn n.entry n.earlier items (distinct_draws cluster items h) n.at noted parts.0) parts.1

  pub recover_body : (deed : Deed) (past : List Deed) (x : TxnId) (body : BodyParts) → StandsAt deed past (deeds_of cluster a items) → deed.act ≡ Recovers x body
      → IsBody cluster items x body
  recover_body deed past x body at is =
      let n = node_step cluster a items h deed past at in
      let parts = recover_event cluster n.earlier x body n.entry.event (n.act_is ∙ ap Some is) in
      let b = begin_entry n.earlier parts.0 x parts.1 in
      body_by cluster items x parts.0 body
      (txn_begun_there x parts.0 b.entry b.earlier items (distinct_draws cluster items h)
      (StandsAt-behind (Step b.entry) (Step n.entry) b.earlier n.earlier items b.at n.at) b.noted b.begins_it)
      parts.2

  -- an attempt has the begun body
  pub attempt_body : (past : List Deed) (x : TxnId) (at : Attempt) → IsPast past (deeds_of cluster a items)
      → attempt_of cluster.layout (node_of a) start x past ≡ Some at → IsBody cluster items x at.body
  attempt_body past x at within is = by (origin_of cluster.layout (node_of a) start x past at is)
    where
      by : Origin cluster.layout (node_of a) start x past at → IsBody cluster items x at.body
      by (FromBegin txn deed before place act_is drawn zero) =
          subst (λ y. IsBody cluster items y at.body) drawn
          (begin_body deed before txn at.body (StandsAt-whole deed before past (deeds_of cluster a items) place within) act_is)
      by (FromRecover deed before place act_is drawn) =
          recover_body deed before x at.body (StandsAt-whole deed before past (deeds_of cluster a items) place within) act_is
