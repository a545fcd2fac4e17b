-- Whatever is recovered, decided, answered or replied was begun in an earlier entry.
use Rattle.std.proofs.Common.{◌≡◌, ℕ, Bool, true, false, not, ◌&&◌, ◌||◌, List, [], ◌∷◌, Some, refl, sym, ◌∙◌, ap, subst, ⊎_elim}
use Rattle.std.specs.List.{list_any}
use Rattle.std.proofs.lemmas.Bool.{true≢false, and_parts, or_cases}
use Rattle.acc_stamp.specs.declared.stamps.TxnId.{TxnId}
use Rattle.acc_stamp.specs.declared.actors.Actor.{Actor}
use Rattle.acc_stamp.specs.Actor.{node_of}
use Rattle.acc_stamp.proofs.Order.{id_order, eq_itself}
use Rattle.acc_txn.specs.declared.parts.BodyParts.{BodyParts}
use Rattle.acc_message.specs.declared.note.Note.{Note}
use Rattle.acc_message.specs.declared.note.Note.TheVariants.{Begin as BeginNote}
use Rattle.acc_message.specs.declared.entry.Emitted.{Emitted}
use Rattle.acc_message.specs.declared.entry.Entry.{Entry}
use Rattle.acc_message.specs.declared.item.Item.{Item}
use Rattle.acc_message.specs.declared.item.Item.TheVariants.{Step}
use Rattle.acc_message.specs.Items.{id_of_note, begins, replies}
use Rattle.acc_message.specs.Attempts.{Attempt}
use Rattle.acc_message.specs.NodeRules.{Act, Begins, Recovers, Deed, is_restart, is_open, next_id, attempt_of}
use Rattle.acc_message.specs.Run.{Cluster, clock_start, deeds_of, is_node, emits_by, EachStands}
use Rattle.acc_safety.specs.Places.{IsIn, First, StandsAt, Here, Back, IsPast}
use Rattle.acc_safety.specs.Histories.{Noting}
use Rattle.acc_safety.specs.NodeMoves.{Move, Reacts, NodeNotes, NotesBegin, NotesRecover, NotesDecision, NotesOutcome, NotesReply, NotesTold, NotesBlocked, NotesEnded}
use Rattle.acc_safety.specs.Attempted.{Origin, FromBegin, FromRecover}
use Rattle.acc_safety.proofs.PlaceOrder.{passing, StandsAt-IsPast, IsPast-rest}
use Rattle.acc_safety.proofs.Bridge.{node_step, EachStands-past, Noting-past, stands_at, store_made_none}
use Rattle.acc_safety.proofs.Attempted.{origin_of}
use Rattle.acc_safety.proofs.BodiesBegun.{begins_is, begin_noted, recover_event, begin_entry}
use Rattle.acc_safety.proofs.Frame.{before_reacts}
use Rattle.acc_safety.proofs.NodeSent.{node_notes}

module _ (cluster : Cluster) (items : List Item) (h : EachStands cluster items) (a : Actor) (node : is_node a ≡ true) where
  -- a deed of the node that begins x noted so
  begin_there : (deed : Deed) (past : List Deed) (txn : ℕ) (body : BodyParts) → StandsAt deed past (deeds_of cluster a items) → deed.act ≡ Begins txn body
      → Noting items (BeginNote (next_id (node_of a) (clock_start cluster.starts (node_of a)) past))
  begin_there deed past txn body at is =
      let n = node_step cluster a items h deed past at in
      let x : TxnId = next_id (node_of a) (clock_start cluster.starts (node_of a)) past in
      record {
        entry = n.entry;
        earlier = n.earlier;
        at = n.at;
        noted =
            subst (IsIn (BeginNote x)) (sym (ap (λ (e : Emitted). e.notes) n.emitted_is ∙ begin_noted cluster items h a node deed past txn body at is))
            (First (BeginNote x) []);
      }

  -- what is recovered was begun
  recover_there : (deed : Deed) (past : List Deed) (x : TxnId) (body : BodyParts) → StandsAt deed past (deeds_of cluster a items) → deed.act ≡ Recovers x body
      → Noting items (BeginNote x)
  recover_there deed past x body at is =
      let n = node_step cluster a items h deed past at in
      let r = recover_event cluster n.earlier x body n.entry.event (n.act_is ∙ ap Some is) in
      let b = begin_entry n.earlier r.0 x r.1 in
      Noting-past n.earlier items (BeginNote x) (earlier_past n.entry n.earlier items n.at)
      (record { entry = b.entry; earlier = b.earlier; at = b.at; noted = b.noted })
    where
      earlier_past : (e : Entry) (earlier items : List Item) → StandsAt (Step e) earlier items → IsPast earlier items
      earlier_past e earlier items at = IsPast-rest (Step e) earlier items (StandsAt-IsPast (Step e) earlier items at)

  -- the transaction of an attempt was begun
  pub attempt_begun : (x : TxnId) (at : Attempt)
      → attempt_of cluster.layout (node_of a) (clock_start cluster.starts (node_of a)) x (deeds_of cluster a items) ≡ Some at → Noting items (BeginNote x)
  attempt_begun x at is = by (origin_of cluster.layout (node_of a) (clock_start cluster.starts (node_of a)) x (deeds_of cluster a items) at is)
    where
      by : Origin cluster.layout (node_of a) (clock_start cluster.starts (node_of a)) x (deeds_of cluster a items) at → Noting items (BeginNote x)
      by (FromBegin txn deed before place act_is drawn at_zero) =
          subst (λ y. Noting items (BeginNote y)) drawn (begin_there deed before txn at.body place act_is)
      by (FromRecover deed before place act_is drawn) = recover_there deed before x at.body place act_is

  -- a client is open since a begin
  open_deed : (x : TxnId) (deeds : List Deed) → is_open x deeds ≡ true → (deed : Deed) × (past : List Deed) × StandsAt deed past deeds × IsIn (BeginNote x) deed.emitted.notes
  open_deed x [] is = absurd (true≢false (sym is))
  open_deed x (deed ∷ past) is =
      let parts = and_parts (not (is_restart deed.act) && not (list_any (replies x) deed.emitted.notes)) (list_any (begins x) deed.emitted.notes || is_open x past) is in
      ⊎_elim
      (λ now.
      let p = passing (begins x) deed.emitted.notes now in
      (deed, past, Here deed past, subst (λ note. IsIn note deed.emitted.notes) (begins_is x p.element p.passes) p.there))
      (λ before.
      let d = open_deed x past before in
      (d.0, d.1, Back d.0 deed d.1 past d.2, d.3))
      (or_cases (list_any (begins x) deed.emitted.notes) (is_open x past) parts.1)

  open_begun : (x : TxnId) → is_open x (deeds_of cluster a items) ≡ true → Noting items (BeginNote x)
  open_begun x is =
      let d = open_deed x (deeds_of cluster a items) is in
      let n = node_step cluster a items h d.0 d.1 d.2 in
      record {
        entry = n.entry;
        earlier = n.earlier;
        at = n.at;
        noted = subst (λ (e : Emitted). IsIn (BeginNote x) e.notes) (sym n.emitted_is) d.3;
      }

  reacts_begun : (x : TxnId) (act : Act) (at : Attempt) (move : Move)
      → Reacts cluster.layout (node_of a) (clock_start cluster.starts (node_of a)) (deeds_of cluster a items) x act at move → Noting items (BeginNote x)
  reacts_begun x act at move reacts =
      let before = before_reacts cluster.layout (node_of a) (clock_start cluster.starts (node_of a)) (deeds_of cluster a items) x act at move reacts in
      attempt_begun x before.attempt before.is

-- a note of the next entry of a node
next_note : (cluster : Cluster) (earlier : List Item) (a : Actor) (act : Act) (note : Note) → EachStands cluster earlier → is_node a ≡ true
    → ((x : TxnId) (body : BodyParts) → act ≡ Recovers x body → Noting earlier (BeginNote x))
    → NodeNotes cluster.layout (node_of a) (clock_start cluster.starts (node_of a)) (deeds_of cluster a earlier) act note
    → begins (id_of_note note) note ≡ false → Noting earlier (BeginNote (id_of_note note))
next_note cluster earlier a act note h node recovered (NotesBegin txn body) isnt = absurd (true≢false (sym (eq_itself id_order (next_id (node_of a) (clock_start cluster.starts (node_of a)) (deeds_of cluster a earlier))) ∙ isnt))
next_note cluster earlier a act note h node recovered (NotesRecover x body) isnt = recovered x body refl
next_note cluster earlier a act note h node recovered (NotesDecision on x at path s reacts) isnt = reacts_begun cluster earlier h a node x on at _ reacts
next_note cluster earlier a act note h node recovered (NotesOutcome on x at s outcome reacts) isnt = reacts_begun cluster earlier h a node x on at _ reacts
next_note cluster earlier a act note h node recovered (NotesReply on x at s outcome reacts is) isnt = reacts_begun cluster earlier h a node x on at _ reacts
next_note cluster earlier a act note h node recovered (NotesTold from to x b outcome is) isnt = open_begun cluster earlier h a node x is
next_note cluster earlier a act note h node recovered (NotesBlocked on x at by reacts) isnt = reacts_begun cluster earlier h a node x on at _ reacts
next_note cluster earlier a act note h node recovered (NotesEnded on x at by reacts) isnt = reacts_begun cluster earlier h a node x on at _ reacts

-- the notes of an entry of a node, by the rules
entry_notes : (cluster : Cluster) (items earlier : List Item) (e : Entry) (note : Note) → EachStands cluster items → StandsAt (Step e) earlier items
    → IsIn note e.emitted.notes → (kind : Bool) → is_node e.actor ≡ kind → begins (id_of_note note) note ≡ false → Noting earlier (BeginNote (id_of_note note))
entry_notes cluster items earlier e note h at noted false store isnt = absurd (store_made_none cluster items earlier e note h at noted store)
entry_notes cluster items earlier e note h at noted true node isnt =
    let on = stands_at cluster items earlier e at h in
    let before : EachStands cluster earlier = (EachStands-past cluster (Step e ∷ earlier) items (StandsAt-IsPast (Step e) earlier items at) h).1 in
    next_note cluster earlier e.actor on.act note before node
    (λ x body is.
    let r = recover_event cluster earlier x body e.event (on.act_is ∙ ap Some is) in
    let b = begin_entry earlier r.0 x r.1 in
    record { entry = b.entry; earlier = b.earlier; at = b.at; noted = b.noted })
    (node_notes cluster.layout (node_of e.actor) (clock_start cluster.starts (node_of e.actor)) (deeds_of cluster e.actor earlier) on.act note
    (subst (λ (m : Emitted). IsIn note m.notes)
    (on.emitted ∙ ap (λ b. emits_by b cluster e.actor (deeds_of cluster e.actor earlier) on.act) node) noted))
    isnt

-- what a note is about, unless it begins it, was begun in an earlier entry
pub begun_before : (cluster : Cluster) (items earlier : List Item) (e : Entry) (note : Note) → EachStands cluster items → StandsAt (Step e) earlier items
    → IsIn note e.emitted.notes → begins (id_of_note note) note ≡ false → Noting earlier (BeginNote (id_of_note note))
begun_before cluster items earlier e note h at noted isnt = entry_notes cluster items earlier e note h at noted (is_node e.actor) refl isnt
