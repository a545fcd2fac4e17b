-- Notes in order: each outcome is right and comes after its begin, and each reply after an outcome.
use Rattle.std.proofs.Common.{◌≡◌, true, List, [], ◌∷◌, ◌++◌, refl, sym, ◌∙◌, ap, subst}
use Rattle.std.specs.List.{list_any}
use Rattle.std.proofs.lemmas.Bool.{or_left, or_right}
use Rattle.std.proofs.lemmas.List.{append-nil, append_assoc}
use Rattle.std.proofs.lemmas.List.Concat.{flat_map-append}
use Rattle.std.proofs.lemmas.List.Folds.{list_any-append}
use Rattle.acc_stamp.specs.declared.stamps.TxnId.{TxnId}
use Rattle.acc_stamp.specs.Stamp.{id_eq}
use Rattle.acc_stamp.proofs.Order.{id_order}
use Rattle.acc_txn.specs.declared.outcome.Outcome.{Outcome}
use Rattle.acc_txn.specs.declared.outcome.Reply.{Reply}
use Rattle.acc_message.specs.declared.note.Note.{Note}
use Rattle.acc_message.specs.declared.note.Note.TheVariants.{Outcome as OutcomeNote, Reply as ReplyNote}
use Rattle.acc_message.specs.declared.message.Message.{Message}
use Rattle.acc_message.specs.declared.message.Message.TheVariants.{ReadOk, Apply, Inform}
use Rattle.acc_message.specs.declared.answer.ReadAnswer.TheVariants.{Values, Known}
use Rattle.acc_message.specs.declared.item.Item.{Item}
use Rattle.acc_message.specs.Items.{begins}
use Rattle.acc_message.specs.Run.{Cluster}
use Rattle.acc_safety.specs.Decisions.{Answered as Answer, outcomes_in, outcomes_of, is_answered}
use Rattle.acc_safety_laws.proofs.Notions.{Answered, Finished, IsOutcome, IsRight}

-- the outcome of x has this reply, and is right
pub record HasReply (cluster : Cluster) (whole : List Item) (before : List Note) (x : TxnId) (reply : Reply) : Type 0 where
  pub outcome : Outcome
  pub reply_is : reply ≡ outcome.reply
  pub finished : Finished cluster whole before x outcome

-- after these notes, a note is in its place
abbrev pub InPlace : Cluster → List Item → List Note → Note → Type 0
InPlace cluster whole before (OutcomeNote x reply) = (list_any (begins x) before ≡ true) × HasReply cluster whole before x reply
InPlace cluster whole before (ReplyNote x reply) = Answered before x × HasReply cluster whole before x reply
InPlace cluster whole before _ = Unit {0}

abbrev pub InOrder : Cluster → List Item → List Note → List Note → Type 0
InOrder cluster whole before [] = Unit {0}
InOrder cluster whole before (note ∷ notes) = InPlace cluster whole before note × InOrder cluster whole (before ++ note ∷ []) notes

-- ---- more notes

pub answered_more : (notes more : List Note) (x : TxnId) → Answered notes x → Answered (notes ++ more) x
answered_more notes more x h =
    ap (is_answered x) (flat_map-append outcomes_in notes more)
    ∙ list_any-append (λ (a : Answer). id_eq a.id x) (outcomes_of notes) (outcomes_of more) ∙ or_left (is_answered x (outcomes_of notes)) _ h

pub answered_then : (notes more : List Note) (x : TxnId) → Answered more x → Answered (notes ++ more) x
answered_then notes more x h =
    ap (is_answered x) (flat_map-append outcomes_in notes more)
    ∙ list_any-append (λ (a : Answer). id_eq a.id x) (outcomes_of notes) (outcomes_of more) ∙ or_right (is_answered x (outcomes_of notes)) _ h

pub answered_now : (x : TxnId) (reply : Reply) (notes : List Note) → Answered (OutcomeNote x reply ∷ notes) x
answered_now x reply notes = or_left (id_eq x x) _ ((id_order.decides x x).1 refl)

module _ (cluster : Cluster) (whole : List Item) (notes more : List Note) where
  pub finished_more : (x : TxnId) (o : Outcome) → Finished cluster whole notes x o → Finished cluster whole (notes ++ more) x o
  finished_more x o f =
      record {
        body = f.body;
        body_is = f.body_is;
        decided = f.decided;
        cells = f.cells;
        outcome_is = f.outcome_is;
        latest = f.latest;
        behind = λ key y used b. answered_more notes more y (f.behind key y used b);
      }

  pub outcome_more : (x : TxnId) (o : Outcome) → IsOutcome cluster whole notes x o → IsOutcome cluster whole (notes ++ more) x o
  outcome_more x o f = record { finished = finished_more x o f.finished; noted = answered_more notes more x f.noted }

  pub right_more : (m : Message) → IsRight cluster whole notes m → IsRight cluster whole (notes ++ more) m
  right_more (ReadOk from to id ballot (Values cells)) r =
      record { decided = r.decided; latest = r.latest; behind = λ y b. answered_more notes more y (r.behind y b) }
  right_more (ReadOk from to id ballot (Known outcome)) r = outcome_more id outcome r
  right_more (Apply from to id ballot body t deps outcome) r = outcome_more id outcome r
  right_more (Inform from to id ballot outcome) r = outcome_more id outcome r
  right_more _ r = tt

-- ---- joined notes

module _ (cluster : Cluster) (whole : List Item) where
  pub in_order_join : (before notes more : List Note) → InOrder cluster whole before notes → InOrder cluster whole (before ++ notes) more
      → InOrder cluster whole before (notes ++ more)
  in_order_join before [] more h k = subst (λ list. InOrder cluster whole list more) (append-nil before) k
  in_order_join before (note ∷ notes) more h k = (
    h.0,
    in_order_join (before ++ note ∷ []) notes more h.1 (subst (λ list. InOrder cluster whole list more) (sym (append_assoc before (note ∷ []) notes)) k),
  )

  -- a note that stands among them
  pub in_place_at : (before notes : List Note) (note : Note) (after : List Note) → InOrder cluster whole before (notes ++ note ∷ after) → InPlace cluster whole (before ++ notes) note
  in_place_at before [] note after h = subst (λ list. InPlace cluster whole list note) (sym (append-nil before)) h.0
  in_place_at before (first ∷ notes) note after h =
      subst (λ list. InPlace cluster whole list note) (append_assoc before (first ∷ []) notes) (in_place_at (before ++ first ∷ []) notes note after h.1)
