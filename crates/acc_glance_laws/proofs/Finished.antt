-- Each answered transaction finished: its outcome is right, and by then those below it were answered.
use Rattle.std.proofs.Common.{◌≡◌, true, List, [], ◌∷◌, ◌++◌, refl, sym, ◌∙◌, ap, subst, ⊎_elim}
use Rattle.std.proofs.lemmas.Bool.{false≢true, or_left, or_cases}
use Rattle.std.proofs.lemmas.List.{append_assoc}
use Rattle.std.proofs.lemmas.List.Folds.{list_any-append}
use Rattle.acc_stamp.specs.declared.stamps.TxnId.{TxnId}
use Rattle.acc_stamp.specs.Stamp.{id_eq}
use Rattle.acc_stamp.proofs.Order.{id_order}
use Rattle.acc_topology.specs.Keys.{shard_of_key}
use Rattle.acc_value.specs.declared.key.Key.{Key}
use Rattle.acc_txn.specs.declared.parts.BodyParts.{BodyParts}
use Rattle.acc_txn.specs.declared.outcome.Outcome.{Outcome}
use Rattle.acc_message.specs.declared.note.Note.{Note}
use Rattle.acc_message.specs.declared.item.Item.{Item}
use Rattle.acc_message.specs.Items.{noted_in, notes_of}
use Rattle.acc_message.specs.Run.{Cluster, EachStands}
use Rattle.acc_safety.specs.Decisions.{Answered as Answer, outcomes_of, is_answered}
use Rattle.acc_actor_laws.proofs.OpeningFacts.{some_is}
use Rattle.acc_safety.specs.Places.{IsPast, Whole, Behind}
use Rattle.acc_safety.specs.Polls.{IsBody}
use Rattle.acc_safety.proofs.Bridge.{EachStands-past}
use Rattle.acc_safety_laws.proofs.Notions.{uses, Below, Answered, Finished}
use Rattle.acc_safety_laws.proofs.Facts.{Premises}
use Rattle.acc_safety_laws.proofs.InTheirTurn.{OutcomesInOrder, outcomes_in_order}
use Rattle.acc_safety_laws.proofs.NotesInOrder.{answered_more}
use Rattle.acc_safety_laws.proofs.SerialRuns.{run_serial}
use Rattle.acc_glance_laws.proofs.Parts.{within_past}

-- an outcome of x, which comes after notes whose outcomes are all among these
pub record FinishedAmong (cluster : Cluster) (whole : List Item) (all : List Answer) (x : TxnId) : Type 0 where
  pub notes : List Note
  pub outcome : Outcome
  pub finished : Finished cluster whole notes x outcome
  pub among : (y : TxnId) → Answered notes y → is_answered y all ≡ true

module _ (cluster : Cluster) (whole : List Item) where
  pub finished_among : (earlier answers all : List Answer) (x : TxnId) → earlier ++ answers ≡ all → OutcomesInOrder cluster whole earlier answers
      → is_answered x answers ≡ true → FinishedAmong cluster whole all x
  finished_among earlier [] all x same order h = absurd (false≢true h)
  finished_among earlier (a ∷ answers) all x same order h =
      ⊎_elim
      (λ here. subst (FinishedAmong cluster whole all) ((id_order.decides a.id x).0 here)
      (record {
        notes = order.0.before;
        outcome = order.0.is.outcome;
        finished = order.0.is.finished;
        among = λ y k.
            ap (is_answered y) (sym same) ∙ list_any-append (λ (b : Answer). id_eq b.id y) earlier (a ∷ answers)
            ∙ or_left (is_answered y earlier) _ (ap (is_answered y) (sym order.0.earlier_are) ∙ k);
      }))
      (λ later. finished_among (earlier ++ a ∷ []) answers all x (append_assoc earlier (a ∷ []) answers ∙ same) order.1 later)
      (or_cases (id_eq a.id x) (is_answered x answers) h)

  -- what is below an answered one was answered
  pub below_is_answered : (answers : List Answer) (z y : TxnId) (body : BodyParts) (key : Key) → OutcomesInOrder cluster whole [] answers
      → is_answered z answers ≡ true → IsBody cluster whole z body → uses body key ≡ true → Below cluster whole (shard_of_key cluster.layout key) y z
      → is_answered y answers ≡ true
  below_is_answered answers z y body key order h is used b =
      let f = finished_among [] answers answers z refl order h in
      f.among y
      (f.finished.behind key y
      (subst (λ p. uses p key ≡ true) (some_is body f.finished.body (sym is ∙ f.finished.body_is)) used) b)

  module _ (given : Premises cluster whole) (stands : EachStands cluster whole) (part : List Item) (past : IsPast part whole) where
    pub in_order : OutcomesInOrder cluster whole [] (outcomes_of (notes_of part))
    in_order =
        outcomes_in_order cluster whole [] (notes_of part)
        (run_serial cluster whole given part (within_past cluster part whole past) (EachStands-past cluster part whole past stands)).noted

    -- what a part of the run answered finished there
    pub finished_in : (x : TxnId) → Answered (notes_of part) x → FinishedAmong cluster whole (outcomes_of (notes_of part)) x
    finished_in x h = finished_among [] (outcomes_of (notes_of part)) (outcomes_of (notes_of part)) x refl in_order h

-- what was answered stays so
pub answered_later : (past items : List Item) (x : TxnId) → IsPast past items → Answered (notes_of past) x → Answered (notes_of items) x
answered_later past items x (Whole xs) h = h
answered_later past items x (Behind item p rest there) h = answered_more (notes_of rest) (noted_in item) x (answered_later p rest x there h)
