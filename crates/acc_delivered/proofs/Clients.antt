-- A client that is kept stays open from its begin to its reply.
use Rattle.std.proofs.Common.{◌≡◌, ℕ, Bool, true, false, not, ◌&&◌, ◌||◌, List, [], ◌∷◌, ◌++◌, refl, sym, ◌∙◌, ap, subst, ◌⊎◌, inl, inr, ⊎_elim}
use Rattle.std.specs.List.{list_any, flat_map}
use Rattle.std.proofs.lemmas.Bool.{true≢false, or_left, or_right}
use Rattle.std.proofs.lemmas.List.Folds.{list_any-append}
use Rattle.acc_stamp.specs.declared.stamps.TxnId.{TxnId}
use Rattle.acc_stamp.specs.declared.actors.Actor.{Actor}
use Rattle.acc_stamp.specs.Actor.{actor_of, node_of}
use Rattle.acc_stamp.specs.Stamp.{stamp_eq}
use Rattle.acc_stamp.proofs.Order.{id_order, stamp_order, eq_itself}
use Rattle.acc_txn.specs.declared.parts.BodyParts.{BodyParts}
use Rattle.acc_message.specs.declared.entry.Entry.{Entry}
use Rattle.acc_message.specs.declared.entry.Emitted.{Emitted}
use Rattle.acc_message.specs.declared.item.Item.{Item}
use Rattle.acc_message.specs.declared.item.Item.TheVariants.{Step, Skipped, Down}
use Rattle.acc_message.specs.declared.note.Note.{Note}
use Rattle.acc_message.specs.declared.note.Note.TheVariants.{Begin as BeginNote}
use Rattle.acc_message.specs.Items.{begins, replies, noted_in, notes_of, same_actor}
use Rattle.acc_message.specs.Coordinator.{home_node}
use Rattle.acc_message.specs.NodeRules.{Act, Begins, Deed, is_restart, is_open, next_id, node_emits}
use Rattle.acc_message.specs.Run.{Cluster, clock_start, deeds_of, deed_if, emits_by, is_node, EachStands}
use Rattle.acc_safety.specs.RunLaws.{drawn_in, drawn_of, AreDistinct}
use Rattle.acc_safety.specs.Places.{IsIn, First, StandsAt, Here, Back, IsPast, Whole, Behind}
use Rattle.acc_safety.specs.Histories.{Noting}
use Rattle.acc_safety.specs.NodeMoves.{NodeNotes, NotesBegin, NotesRecover, NotesDecision, NotesOutcome, NotesReply, NotesTold, NotesBlocked, NotesEnded}
use Rattle.acc_safety.proofs.PlaceOrder.{Passing, passing, any_from}
use Rattle.acc_safety.proofs.Bridge.{same, EachStands-past, Noting-past, store_made_none, node_is_actor}
use Rattle.acc_safety.proofs.BodiesBegun.{distinct_draws}
use Rattle.acc_safety.proofs.Draws.{node_of_draw}
use Rattle.acc_safety.proofs.NodeSent.{node_notes}
use Rattle.acc_safety.proofs.Frame.{past_of}
use Rattle.acc_calm.proofs.Courses.{rest_same}
use Rattle.acc_delivered.specs.Ends.{restarts, KeepsClient, is_replied}
use Rattle.acc_delivered.proofs.Deliveries.{append_is_past}
use Rattle.acc_delivered.proofs.Started.{restarts_alone, or_both, and_rest, drawn_there}
use Rattle.acc_delivered.proofs.Resting.{deeds_here}

-- ---- places

-- what stands before an element: a part of the front with all that is older, where the front passes no test, or it stands among the older ones
in_front : {T : Type 0} (test : T → Bool) (x : T) (past front older : List T) → StandsAt x past (front ++ older) → list_any test front ≡ false
    → ((part : List T) × (past ≡ part ++ older) × (list_any test part ≡ false)) ⊎ StandsAt x past older
in_front test x past [] older at none = inr at
in_front {T} test x past (y ∷ front) older at none =
    by x past (y ∷ front ++ older) at refl (λ w p there. in_front test w p front older there (or_both (test y) (list_any test front) none).1)
  where
    by : (w : T) (p all : List T) → StandsAt w p all → all ≡ y ∷ front ++ older
        → ((v : T) (vs : List T) → StandsAt v vs (front ++ older) → ((part : List T) × (vs ≡ part ++ older) × (list_any test part ≡ false)) ⊎ StandsAt v vs older)
        → ((part : List T) × (p ≡ part ++ older) × (list_any test part ≡ false)) ⊎ StandsAt w p older
    by w p all (Here v vs) is rest = inl (front, rest_same is, (or_both (test y) (list_any test front) none).1)
    by w p all (Back v u vs us there) is rest = rest v vs (subst (StandsAt v vs) (rest_same is) there)

-- what stands before an element is older than the newest
place_past : {T : Type 0} (x y : T) (past older : List T) → StandsAt x past (y ∷ older) → IsPast past older
place_past {T} x y past older at = by x past (y ∷ older) at refl
  where
    by : (w : T) (p all : List T) → StandsAt w p all → all ≡ y ∷ older → IsPast p older
    by w p all (Here v vs) is = subst (IsPast vs) (rest_same is) (Whole vs)
    by w p all (Back v u vs us there) is = subst (IsPast vs) (rest_same is) (past_of v vs us there)

-- ---- replies

module _ (cluster : Cluster) (x : TxnId) where
  abbrev home : Actor
  home = home_node x

  replied_before : (item : Item) (earlier : List Item) → is_replied x earlier ≡ true → is_replied x (item ∷ earlier) ≡ true
  replied_before item earlier h =
      list_any-append (replies x) (notes_of earlier) (noted_in item) ∙ or_left (is_replied x earlier) (list_any (replies x) (noted_in item)) h

  replied_now : (item : Item) (earlier : List Item) → list_any (replies x) (noted_in item) ≡ true → is_replied x (item ∷ earlier) ≡ true
  replied_now item earlier h =
      list_any-append (replies x) (notes_of earlier) (noted_in item) ∙ or_right (is_replied x earlier) (list_any (replies x) (noted_in item)) h

  pub replied_past : (past items : List Item) → IsPast past items → is_replied x past ≡ true → is_replied x items ≡ true
  replied_past past items (Whole ys) h = h
  replied_past past items (Behind item ys zs there) h = replied_before item zs (replied_past ys zs there h)

  -- ---- the begin

  -- the act that begins x draws it
  record Drawing (node start : ℕ) (past : List Deed) (act : Act) : Type 0 where
    txn : ℕ
    body : BodyParts
    act_is : act ≡ Begins txn body
    drawn : next_id node start past ≡ x

  drawing : (node start : ℕ) (past : List Deed) (act : Act) (note : Note) → NodeNotes cluster.layout node start past act note → begins x note ≡ true
      → Drawing node start past act
  drawing node start past act note (NotesBegin txn body) h =
      record { txn = txn; body = body; act_is = refl; drawn = (id_order.decides (next_id node start past) x).0 h }
  drawing node start past act note (NotesRecover y body) h = absurd (true≢false (sym h))
  drawing node start past act note (NotesDecision on y a path s reacts) h = absurd (true≢false (sym h))
  drawing node start past act note (NotesOutcome on y a s outcome reacts) h = absurd (true≢false (sym h))
  drawing node start past act note (NotesReply on y a s outcome reacts client) h = absurd (true≢false (sym h))
  drawing node start past act note (NotesTold from to y b outcome client) h = absurd (true≢false (sym h))
  drawing node start past act note (NotesBlocked on y a by reacts) h = absurd (true≢false (sym h))
  drawing node start past act note (NotesEnded on y a by reacts) h = absurd (true≢false (sym h))

  module _ (earlier : List Item) (e : Entry) (stands : EachStands cluster (Step e ∷ earlier)) (begun : list_any (begins x) e.emitted.notes ≡ true) where
    abbrev past : List Deed
    past = deeds_of cluster e.actor earlier

    abbrev start : ℕ
    start = clock_start cluster.starts (node_of e.actor)

    noted : Passing (begins x) e.emitted.notes
    noted = passing (begins x) e.emitted.notes begun

    at_node : is_node e.actor ≡ true
    at_node = by (is_node e.actor) refl
      where
        by : (o : Bool) → is_node e.actor ≡ o → o ≡ true
        by true node = refl
        by false store = absurd (store_made_none cluster (Step e ∷ earlier) earlier e noted.element stands (Here (Step e) earlier) noted.there store)

    emitted_is : e.emitted ≡ node_emits cluster.layout (node_of e.actor) start past stands.0.act
    emitted_is = stands.0.emitted ∙ ap (λ o. emits_by o cluster e.actor past stands.0.act) at_node

    its_drawing : Drawing (node_of e.actor) start past stands.0.act
    its_drawing =
        drawing (node_of e.actor) start past stands.0.act noted.element
        (node_notes cluster.layout (node_of e.actor) start past stands.0.act noted.element
        (subst (λ (w : Emitted). IsIn noted.element w.notes) emitted_is noted.there))
        noted.passes

    begins_at_home : e.actor ≡ home
    begins_at_home =
        sym (node_is_actor e.actor at_node) ∙ ap (λ n. actor_of n 0) (sym (node_of_draw (node_of e.actor) start past)) ∙ ap home_node its_drawing.drawn

    begins_up : is_restart stands.0.act ≡ false
    begins_up = ap is_restart its_drawing.act_is

    -- it begins x alone
    notes_are : e.emitted.notes ≡ BeginNote x ∷ []
    notes_are =
        ap (λ (w : Emitted). w.notes) emitted_is ∙ ap (λ act. (node_emits cluster.layout (node_of e.actor) start past act).notes) its_drawing.act_is
        ∙ ap (λ y. BeginNote y ∷ []) its_drawing.drawn

    -- and x was not begun before
    begun_once : Noting earlier (BeginNote x) → ⊥
    begun_once n =
        true≢false
        (sym (any_from (λ s. stamp_eq s x.0) x.0 (drawn_of earlier) (drawn_there earlier n.entry n.earlier x.0 (BeginNote x) n.at n.noted (First x.0 [])) (eq_itself stamp_order x.0))
        ∙ distinct.0)
      where
        distinct : AreDistinct (x.0 ∷ drawn_of earlier)
        distinct = subst (λ notes. AreDistinct (flat_map drawn_in notes ++ drawn_of earlier)) notes_are (distinct_draws cluster (Step e ∷ earlier) stands)

  -- ---- from there on

  abbrev pub IsServed : List Item → Type 0
  IsServed items = (is_open x (deeds_of cluster home items) ≡ true) ⊎ (is_replied x items ≡ true)

  one_deed : (restart reply begin waits : Bool) → restart ≡ false → (begin || waits) ≡ true → ((not restart && not reply && (begin || waits)) ≡ true) ⊎ (reply ≡ true)
  one_deed true reply begin waits up now = absurd (true≢false up)
  one_deed false true begin waits up now = inr refl
  one_deed false false begin waits up now = inl now

  by_entry : (earlier : List Item) (e : Entry) (stands : EachStands cluster (Step e ∷ earlier)) → e.actor ≡ home → is_restart stands.0.act ≡ false
      → (list_any (begins x) e.emitted.notes || is_open x (deeds_of cluster home earlier)) ≡ true → IsServed (Step e ∷ earlier)
  by_entry earlier e stands actor_is up now =
      let deed : Deed = record { act = stands.0.act; emitted = e.emitted } in
      ⊎_elim (λ waits. inl (ap (is_open x) (deeds_here cluster home earlier e deed actor_is stands.0.act_is refl) ∙ waits))
      (λ reply. inr (replied_now (Step e) earlier reply))
      (one_deed (is_restart stands.0.act) (list_any (replies x) e.emitted.notes) (list_any (begins x) e.emitted.notes) (is_open x (deeds_of cluster home earlier)) up now)

  stays : (item : Item) (earlier : List Item) → EachStands cluster (item ∷ earlier) → restarts home item ≡ false → IsServed earlier → IsServed (item ∷ earlier)
  stays (Skipped step cause) earlier stands up served = ⊎_elim inl (λ reply. inr (replied_before (Skipped step cause) earlier reply)) served
  stays (Down actor) earlier stands up served = ⊎_elim inl (λ reply. inr (replied_before (Down actor) earlier reply)) served
  stays (Step e) earlier stands up served =
      ⊎_elim (λ waits. by (same_actor e.actor home) refl waits) (λ reply. inr (replied_before (Step e) earlier reply)) served
    where
      by : (o : Bool) → same_actor e.actor home ≡ o → is_open x (deeds_of cluster home earlier) ≡ true → IsServed (Step e ∷ earlier)
      by true here waits =
          by_entry earlier e stands (same e.actor home here)
          (restarts_alone cluster earlier e.event stands.0.act stands.0.act_is (and_rest (same_actor e.actor home) _ here up))
          (or_right (list_any (begins x) e.emitted.notes) (is_open x (deeds_of cluster home earlier)) waits)
      by false other waits = inl (ap (λ o. is_open x (deed_if o cluster earlier e ++ deeds_of cluster home earlier)) other ∙ waits)

  served : (after earlier : List Item) (e : Entry) → EachStands cluster (after ++ Step e ∷ earlier) → list_any (begins x) e.emitted.notes ≡ true
      → list_any (restarts home) after ≡ false → IsServed (after ++ Step e ∷ earlier)
  served [] earlier e stands begun up =
      by_entry earlier e stands (begins_at_home earlier e stands begun) (begins_up earlier e stands begun)
      (or_left (list_any (begins x) e.emitted.notes) (is_open x (deeds_of cluster home earlier)) begun)
  served (item ∷ after) earlier e stands begun up =
      let parts = or_both (restarts home item) (list_any (restarts home) after) up in
      stays item (after ++ Step e ∷ earlier) stands parts.0 (served after earlier e stands.1 begun parts.1)

  -- before each item, once x was begun, its client is open or has its reply
  pub served_before : (items earlier : List Item) (item : Item) → EachStands cluster items → KeepsClient x items → StandsAt item earlier items
      → Noting earlier (BeginNote x) → IsServed earlier
  served_before items earlier item stands k at begun =
      ⊎_elim
      (λ newer.
      subst IsServed (sym newer.1)
      (served newer.0 k.earlier k.entry (subst (EachStands cluster) newer.1 (EachStands-past cluster earlier items (past_of item earlier items at) stands))
      k.begins_it newer.2))
      (λ older.
      absurd (begun_once k.earlier k.entry
      (EachStands-past cluster (Step k.entry ∷ k.earlier) items
      (subst (IsPast (Step k.entry ∷ k.earlier)) (sym k.items_are) (append_is_past k.after (Step k.entry ∷ k.earlier))) stands)
      k.begins_it (Noting-past earlier k.earlier (BeginNote x) (place_past item (Step k.entry) earlier k.earlier older) begun)))
      (in_front (restarts home) item earlier k.after (Step k.entry ∷ k.earlier) (subst (StandsAt item earlier) k.items_are at) k.up)
