-- The outcomes and replies of notes in order.
use Rattle.std.proofs.Common.{◌≡◌, true, false, List, [], ◌∷◌, ◌++◌, Contains, refl, sym, ◌∙◌, ap, subst, ⊎_elim}
use Rattle.std.specs.List.{AllByRecursion, list_any}
use Rattle.std.proofs.lemmas.Bool.{true≢false, false≢true, or_left, or_right, or_cases, or_from, cases_Bool, cond_both, false_from_ne_true}
use Rattle.std.proofs.lemmas.List.{append_assoc}
use Rattle.acc_stamp.specs.declared.stamps.TxnId.{TxnId}
use Rattle.acc_stamp.specs.Stamp.{id_eq}
use Rattle.acc_stamp.proofs.Order.{id_order}
use Rattle.acc_txn.specs.declared.outcome.Outcome.{Outcome}
use Rattle.acc_txn.specs.declared.outcome.Reply.{Reply}
use Rattle.acc_message.specs.declared.note.Note.{Note}
use Rattle.acc_message.specs.declared.note.Note.TheVariants.{Begin as BeginNote, Outcome as OutcomeNote, Reply as ReplyNote}
use Rattle.acc_message.specs.declared.item.Item.{Item}
use Rattle.acc_message.specs.Items.{replies}
use Rattle.acc_message.specs.Run.{Cluster}
use Rattle.acc_safety.specs.Decisions.{Answered as Answer, outcomes_of, replies_of, is_answered, firsts_after, first_outcomes}
use Rattle.acc_safety.specs.SerialOutcomes.{IsInPlace}
use Rattle.acc_safety_laws.proofs.Notions.{Answered}
use Rattle.acc_safety_laws.proofs.Facts.{Premises}
use Rattle.acc_safety_laws.proofs.StoreRight.{one_outcome}
use Rattle.acc_safety.specs.Places.{IsIn}
use Rattle.acc_safety.proofs.PlaceOrder.{each_at, any_from, passing, Contains-IsIn, IsIn-Contains}
use Rattle.acc_safety_laws.proofs.NotesInOrder.{HasReply, InPlace, InOrder, answered_more, in_place_at}

-- ---- first outcomes

is_one : (a : Answer) (x : TxnId) (reply : Reply) → a.id ≡ x → a.reply ≡ reply → a ≡ record { id = x; reply = reply }
is_one a x reply p q = λ i. record { id = p i; reply = q i }

answered_by : (answers : List Answer) (a : Answer) → IsIn a answers → is_answered a.id answers ≡ true
answered_by answers a there = any_from (λ (b : Answer). id_eq b.id a.id) a answers there ((id_order.decides a.id a.id).1 refl)

-- of each transaction that is answered one answer is first
first_is_answered : (seen answers : List Answer) (x : TxnId) → is_answered x answers ≡ true → is_answered x seen ≡ false → is_answered x (firsts_after seen answers) ≡ true
first_is_answered seen [] x h new = h
first_is_answered seen (a ∷ answers) x h new =
    cond_both (is_answered a.id seen) (firsts_after (a ∷ seen) answers) (a ∷ firsts_after (a ∷ seen) answers) (λ list. is_answered x list ≡ true)
    (λ old. ⊎_elim
    (λ same. absurd (true≢false (sym old ∙ ap (λ y. is_answered y seen) ((id_order.decides a.id x).0 same) ∙ new)))
    (λ later. ⊎_elim (λ same. absurd (true≢false (sym old ∙ ap (λ y. is_answered y seen) ((id_order.decides a.id x).0 same) ∙ new)))
    (λ other. first_is_answered (a ∷ seen) answers x later (or_from (id_eq a.id x) (is_answered x seen) other new)) (cases_Bool (id_eq a.id x)))
    (or_cases (id_eq a.id x) (is_answered x answers) h))
    (λ _. ⊎_elim (or_left (id_eq a.id x) _)
    (λ other. or_right (id_eq a.id x) _ (first_is_answered (a ∷ seen) answers x
    (⊎_elim (λ same. absurd (true≢false (sym same ∙ other))) (λ later. later) (or_cases (id_eq a.id x) (is_answered x answers) h))
    (or_from (id_eq a.id x) (is_answered x seen) other new)))
    (cases_Bool (id_eq a.id x)))

each_first : (P : Answer → Type 0) (seen answers : List Answer) → AllByRecursion P answers → AllByRecursion P (firsts_after seen answers)
each_first P seen [] each = tt
each_first P seen (a ∷ answers) each =
    cond_both (is_answered a.id seen) (firsts_after (a ∷ seen) answers) (a ∷ firsts_after (a ∷ seen) answers) (AllByRecursion P)
    (λ _. each_first P (a ∷ seen) answers each.1) (λ _. (each.0, each_first P (a ∷ seen) answers each.1))

module _ (cluster : Cluster) (whole : List Item) (given : Premises cluster whole) where
  -- the transaction has this reply after some notes
  abbrev pub Replies : TxnId → Reply → Type 0
  Replies x reply = (before : List Note) × HasReply cluster whole before x reply

  one_reply : (x : TxnId) (a b : Reply) → Replies x a → Replies x b → a ≡ b
  one_reply x a b h k =
      h.1.reply_is ∙ ap (λ (o : Outcome). o.reply) (one_outcome cluster whole given h.0 k.0 x h.1.outcome k.1.outcome h.1.finished k.1.finished) ∙ sym k.1.reply_is

  -- ---- each outcome and each reply

  each_outcome : (before notes : List Note) → InOrder cluster whole before notes → AllByRecursion (λ (a : Answer). Replies a.id a.reply) (outcomes_of notes)
  each_outcome before [] h = tt
  each_outcome before (OutcomeNote x reply ∷ notes) h = ((before, h.0.1), each_outcome (before ++ OutcomeNote x reply ∷ []) notes h.1)
  each_outcome before (BeginNote x ∷ notes) h = each_outcome (before ++ BeginNote x ∷ []) notes h.1
  each_outcome before (note ∷ notes) h = each_outcome (before ++ note ∷ []) notes h.1

  each_reply : (before notes : List Note) → InOrder cluster whole before notes
      → AllByRecursion (λ (a : Answer). Replies a.id a.reply × Answered (before ++ notes) a.id) (replies_of notes)
  each_reply before [] h = tt
  each_reply before (ReplyNote x reply ∷ notes) h = (
    ((before, h.0.1), answered_more before (ReplyNote x reply ∷ notes) x h.0.0),
    subst (λ list. AllByRecursion (λ (a : Answer). Replies a.id a.reply × Answered list a.id) (replies_of notes)) (append_assoc before (ReplyNote x reply ∷ []) notes)
        (each_reply (before ++ ReplyNote x reply ∷ []) notes h.1),
  )
  each_reply before (BeginNote x ∷ notes) h =
      subst (λ list. AllByRecursion (λ (a : Answer). Replies a.id a.reply × Answered list a.id) (replies_of notes)) (append_assoc before (BeginNote x ∷ []) notes)
      (each_reply (before ++ BeginNote x ∷ []) notes h.1)
  each_reply before (note ∷ notes) h =
      subst (λ list. AllByRecursion (λ (a : Answer). Replies a.id a.reply × Answered list a.id) (replies_of notes)) (append_assoc before (note ∷ []) notes)
      (each_reply (before ++ note ∷ []) notes h.1)

  -- an answered transaction has just this answer
  the_answer : (answers : List Answer) (a : Answer) → AllByRecursion (λ (b : Answer). Replies b.id b.reply) answers → is_answered a.id answers ≡ true → Replies a.id a.reply
      → IsIn a answers
  the_answer answers a each answered is =
      let p = passing (λ (b : Answer). id_eq b.id a.id) answers answered in
      let same = (id_order.decides p.element.id a.id).0 p.passes in
      subst (λ b. IsIn b answers)
      (is_one p.element a.id a.reply same
      (one_reply a.id p.element.reply a.reply (subst (λ y. Replies y p.element.reply) same (each_at (λ (b : Answer). Replies b.id b.reply) p.element answers each p.there)) is)) p.there

  module _ (notes : List Note) (order : InOrder cluster whole [] notes) where
    first_answer : (a : Answer) → Answered notes a.id → Replies a.id a.reply → Contains (first_outcomes notes) a
    first_answer a answered is =
        IsIn-Contains a (first_outcomes notes)
        (the_answer (first_outcomes notes) a (each_first (λ (b : Answer). Replies b.id b.reply) [] (outcomes_of notes) (each_outcome [] notes order))
        (first_is_answered [] (outcomes_of notes) a.id answered refl) is)

    pub outcomes_agree : (a : Answer) → Contains (outcomes_of notes) a → Contains (first_outcomes notes) a
    outcomes_agree a h =
        let there = Contains-IsIn a (outcomes_of notes) h in
        first_answer a (answered_by (outcomes_of notes) a there) (each_at (λ (b : Answer). Replies b.id b.reply) a (outcomes_of notes) (each_outcome [] notes order) there)

    pub replies_agree : (a : Answer) → Contains (replies_of notes) a → Contains (first_outcomes notes) a
    replies_agree a h =
        let r = each_at (λ (b : Answer). Replies b.id b.reply × Answered notes b.id) a (replies_of notes) (each_reply [] notes order) (Contains-IsIn a (replies_of notes) h) in
        first_answer a r.1 r.0

  -- ---- the place of an outcome

  in_order_front : (before notes more : List Note) → InOrder cluster whole before (notes ++ more) → InOrder cluster whole before notes
  in_order_front before [] more h = tt
  in_order_front before (note ∷ notes) more h = (h.0, in_order_front (before ++ note ∷ []) notes more h.1)

  reply_is_answered : (x : TxnId) (before notes : List Note) → InOrder cluster whole before notes → list_any (replies x) notes ≡ true → Answered (before ++ notes) x
  reply_is_answered x before [] h k = absurd (false≢true k)
  reply_is_answered x before (note ∷ notes) h k =
      ⊎_elim (here note h.0)
      (λ later. subst (λ list. Answered list x) (append_assoc before (note ∷ []) notes) (reply_is_answered x (before ++ note ∷ []) notes h.1 later))
      (or_cases (replies x note) (list_any (replies x) notes) k)
    where
      here : (note : Note) → InPlace cluster whole before note → replies x note ≡ true → Answered (before ++ note ∷ notes) x
      here (ReplyNote y reply) place is = answered_more before (ReplyNote y reply ∷ notes) x (subst (Answered before) ((id_order.decides y x).0 is) place.0)
      here (BeginNote y) place is = absurd (false≢true is)
      here _ place is = absurd (false≢true is)

  pub notes_in_place : (notes : List Note) → InOrder cluster whole [] notes → IsInPlace notes
  notes_in_place notes order before after x reply is new =
      let split = subst (InOrder cluster whole []) is order in (
        (in_place_at cluster whole [] before (OutcomeNote x reply) after split).0,
        false_from_ne_true (list_any (replies x) before)
            (λ replied. true≢false (sym (reply_is_answered x [] before (in_order_front [] before (OutcomeNote x reply ∷ after) split) replied) ∙ new)),
      )
