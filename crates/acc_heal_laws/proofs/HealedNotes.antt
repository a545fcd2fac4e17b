-- The notes of healed items tell of each transaction that they begin.
use Rattle.std.proofs.Common.{◌≡◌, true, List, sym, ap, subst}
use Rattle.std.specs.Prelude.{Contains}
use Rattle.acc_stamp.specs.declared.stamps.TxnId.{TxnId}
use Rattle.acc_stamp.specs.Stamp.{id_eq}
use Rattle.acc_stamp.proofs.Order.{id_order, eq_itself}
use Rattle.acc_txn.specs.declared.outcome.Reply.{Reply}
use Rattle.acc_message.specs.declared.note.Note.{Note}
use Rattle.acc_message.specs.declared.note.Note.TheVariants.{Begin as BeginNote, Recover as RecoverNote, Blocked, Ended, Decide as DecideNote, Outcome as OutcomeNote, Reply as ReplyNote}
use Rattle.acc_message.specs.declared.item.Item.{Item}
use Rattle.acc_message.specs.declared.item.Item.TheVariants.{Step}
use Rattle.acc_message.specs.Items.{notes_of, begins}
use Rattle.acc_safety.specs.Decisions.{Decision, Answered, decisions_of, outcomes_in, outcomes_of}
use Rattle.acc_safety.specs.Places.{IsIn}
use Rattle.acc_safety.specs.Histories.{Noting}
use Rattle.acc_safety.proofs.PlaceOrder.{only, none_is_in, Contains-IsIn, IsIn-Contains, passing, any_from, IsIn-flat_map}
use Rattle.acc_safety_laws.proofs.Noted.{decision_noted}
use Rattle.acc_calm.proofs.Finished.{noted_there}
use Rattle.acc_delivered.specs.Ends.{had_outcome}
use Rattle.acc_heal_laws.specs.Laws.{HealedItemsTell}

noted : (items : List Item) (note : Note) → Noting items note → Contains (notes_of items) note
noted items note n = IsIn-Contains note (notes_of items) (noted_there items n.earlier (Step n.entry) note n.at n.noted)

outcome_note : (a : Answered) (note : Note) → IsIn a (outcomes_in note) → note ≡ OutcomeNote a.id a.reply
outcome_note a (OutcomeNote id reply) there = ap (λ (k : Answered). OutcomeNote k.id k.reply) (sym (only a (record { id = id; reply = reply }) there))
outcome_note a (BeginNote id) there = absurd (none_is_in a there)
outcome_note a (RecoverNote id ballot) there = absurd (none_is_in a there)
outcome_note a (Blocked id ballot by) there = absurd (none_is_in a there)
outcome_note a (Ended id ballot by) there = absurd (none_is_in a there)
outcome_note a (DecideNote id t path deps) there = absurd (none_is_in a there)
outcome_note a (ReplyNote id reply) there = absurd (none_is_in a there)

outcome_told : (items : List Item) (x : TxnId) → had_outcome x items ≡ true → (reply : Reply) × Contains (notes_of items) (OutcomeNote x reply)
outcome_told items x h =
    let p = passing (λ (k : Answered). id_eq k.id x) (outcomes_of (notes_of items)) h in
    let from = IsIn-flat_map outcomes_in p.element (notes_of items) p.there in (
      p.element.reply,
      subst (λ y. Contains (notes_of items) (OutcomeNote y p.element.reply)) ((id_order.decides p.element.id x).0 p.passes)
          (IsIn-Contains (OutcomeNote p.element.id p.element.reply) (notes_of items)
          (subst (λ note. IsIn note (notes_of items)) (outcome_note p.element from.source from.within) from.there)),
    )

pub healed_items_tell : HealedItemsTell
healed_items_tell cluster items healed x there =
    let done = healed x (any_from (begins x) (BeginNote x) (notes_of items) (Contains-IsIn (BeginNote x) (notes_of items) there) (eq_itself id_order x)) in
    let p = passing (λ (d : Decision). id_eq d.id x) (decisions_of (notes_of items)) done.decided in
    let n = decision_noted items p.element (IsIn-Contains p.element (decisions_of (notes_of items)) p.there) in
    let outcome = outcome_told items x done.outcome in
    record {
      t = p.element.t;
      path = n.path;
      deps = p.element.deps;
      decided =
          subst (λ y. Contains (notes_of items) (DecideNote y p.element.t n.path p.element.deps)) ((id_order.decides p.element.id x).0 p.passes)
          (noted items (DecideNote p.element.id p.element.t n.path p.element.deps) n.noted);
      reply = outcome.0;
      outcome = outcome.1;
    }
