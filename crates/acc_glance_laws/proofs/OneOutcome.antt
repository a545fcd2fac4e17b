-- The outcomes of one item are those of one transaction.
use Rattle.std.proofs.Common.{◌≡◌, ℕ, Bool, true, false, List, ◌∷◌, Option, None, Some, refl, sym, ◌∙◌, ap, subst}
use Rattle.std.proofs.lemmas.Bool.{false≢true}
use Rattle.acc_stamp.specs.declared.stamps.TxnId.{TxnId}
use Rattle.acc_stamp.specs.Actor.{node_of}
use Rattle.acc_stamp.specs.Stamp.{id_eq}
use Rattle.acc_stamp.proofs.Order.{id_order}
use Rattle.acc_topology.specs.Layout.{Layout}
use Rattle.acc_txn.specs.declared.outcome.Reply.{Reply}
use Rattle.acc_message.specs.declared.note.Note.{Note}
use Rattle.acc_message.specs.declared.note.Note.TheVariants.{Begin, Recover, Blocked, Ended, Decide, Outcome as OutcomeNote, Reply as ReplyNote}
use Rattle.acc_message.specs.declared.entry.Emitted.{Emitted}
use Rattle.acc_message.specs.declared.entry.Entry.{Entry}
use Rattle.acc_message.specs.declared.item.Item.{Item}
use Rattle.acc_message.specs.declared.item.Item.TheVariants.{Step, Skipped, Down}
use Rattle.acc_message.specs.Fields.{id_of}
use Rattle.acc_message.specs.Items.{noted_in}
use Rattle.acc_message.specs.Attempts.{Attempt}
use Rattle.acc_message.specs.NodeRules.{Act, Begins, Recovers, Slows, Takes, Restarts, Deed}
use Rattle.acc_message.specs.Run.{Cluster, clock_start, deeds_of, is_node, emits_by, EachStands}
use Rattle.acc_actor_laws.proofs.OpeningFacts.{some_is}
use Rattle.acc_safety.specs.Decisions.{Answered as Answer, outcomes_in, outcomes_of}
use Rattle.acc_safety.specs.Places.{IsIn, Here}
use Rattle.acc_safety.specs.NodeMoves.{Move, Reacts, ToSlow, ToMessage, NodeNotes, NotesBegin, NotesRecover, NotesDecision, NotesOutcome, NotesReply, NotesTold, NotesBlocked, NotesEnded}
use Rattle.acc_safety.proofs.PlaceOrder.{only, none_is_in, passing, IsIn-flat_map}
use Rattle.acc_safety.proofs.Bridge.{store_made_none}
use Rattle.acc_safety.proofs.NodeSent.{node_notes}
use Rattle.acc_safety_laws.proofs.Notions.{Answered}

-- ---- an answered transaction has an outcome among the notes

outcome_by : (notes : List Note) (a : Answer) (note : Note) → IsIn note notes → IsIn a (outcomes_in note) → (reply : Reply) × IsIn (OutcomeNote a.id reply) notes
outcome_by notes a (OutcomeNote id reply) there h =
    (reply, subst (λ (b : Answer). IsIn (OutcomeNote b.id reply) notes) (sym (only a (record { id = id; reply = reply }) h)) there)
outcome_by notes a (Begin id) there h = absurd (none_is_in a h)
outcome_by notes a (Recover id ballot) there h = absurd (none_is_in a h)
outcome_by notes a (Blocked id ballot by) there h = absurd (none_is_in a h)
outcome_by notes a (Ended id ballot by) there h = absurd (none_is_in a h)
outcome_by notes a (Decide id t path deps) there h = absurd (none_is_in a h)
outcome_by notes a (ReplyNote id reply) there h = absurd (none_is_in a h)

outcome_noted : (notes : List Note) (x : TxnId) → Answered notes x → (reply : Reply) × IsIn (OutcomeNote x reply) notes
outcome_noted notes x h =
    let p = passing (λ (a : Answer). id_eq a.id x) (outcomes_of notes) h in
    let from = IsIn-flat_map outcomes_in p.element notes p.there in
    let found = outcome_by notes p.element from.source from.there from.within in
    (found.0, subst (λ y. IsIn (OutcomeNote y found.0) notes) ((id_order.decides p.element.id x).0 p.passes) found.1)

-- ---- the act is about it

abbrev act_about : Act → Option TxnId
act_about (Slows x) = Some x
act_about (Takes m) = Some (id_of m)
act_about (Begins txn body) = None
act_about (Recovers x body) = None
act_about Restarts = None

abbrev OutcomeOf : Act → Note → Type 0
OutcomeOf act (OutcomeNote x reply) = act_about act ≡ Some x
OutcomeOf act _ = Unit {0}

module _ (layout : Layout) (node start : ℕ) (past : List Deed) where
  reacts_about : (x : TxnId) (act : Act) (a : Attempt) (move : Move) → Reacts layout node start past x act a move → act_about act ≡ Some x
  reacts_about x act a move (ToSlow b m is moves) = refl
  reacts_about x act a move (ToMessage before b m made is about hears) = ap (λ z. Some z) about

  note_about : (act : Act) (note : Note) → NodeNotes layout node start past act note → OutcomeOf act note
  note_about act note (NotesBegin txn body) = tt
  note_about act note (NotesRecover x body) = tt
  note_about act note (NotesDecision on x a path s reacts) = tt
  note_about act note (NotesOutcome on x a s outcome reacts) = reacts_about x on a _ reacts
  note_about act note (NotesReply on x a s outcome reacts waits) = tt
  note_about act note (NotesTold from to x b outcome waits) = tt
  note_about act note (NotesBlocked on x a by reacts) = tt
  note_about act note (NotesEnded on x a by reacts) = tt

module _ (cluster : Cluster) (earlier : List Item) where
  entry_about : (e : Entry) (stands : EachStands cluster (Step e ∷ earlier)) (x : TxnId) (reply : Reply) → IsIn (OutcomeNote x reply) e.emitted.notes
      → act_about stands.0.act ≡ Some x
  entry_about e stands x reply there = by (is_node e.actor) refl
    where
      by : (kind : Bool) → is_node e.actor ≡ kind → act_about stands.0.act ≡ Some x
      by false store = absurd (store_made_none cluster (Step e ∷ earlier) earlier e (OutcomeNote x reply) stands (Here (Step e) earlier) there store)
      by true node =
          note_about cluster.layout (node_of e.actor) (clock_start cluster.starts (node_of e.actor)) (deeds_of cluster e.actor earlier) stands.0.act (OutcomeNote x reply)
          (node_notes cluster.layout (node_of e.actor) (clock_start cluster.starts (node_of e.actor)) (deeds_of cluster e.actor earlier) stands.0.act (OutcomeNote x reply)
          (subst (λ (m : Emitted). IsIn (OutcomeNote x reply) m.notes)
          (stands.0.emitted ∙ ap (λ b. emits_by b cluster e.actor (deeds_of cluster e.actor earlier) stands.0.act) node) there))

  pub one_is_answered : (item : Item) → EachStands cluster (item ∷ earlier) → (x y : TxnId) → Answered (noted_in item) x → Answered (noted_in item) y → x ≡ y
  one_is_answered (Step e) stands x y h k =
      let first = outcome_noted e.emitted.notes x h in
      let second = outcome_noted e.emitted.notes y k in
      some_is x y (sym (entry_about e stands x first.0 first.1) ∙ entry_about e stands y second.0 second.1)
  one_is_answered (Skipped step cause) stands x y h k = absurd (false≢true h)
  one_is_answered (Down actor) stands x y h k = absurd (false≢true h)
