-- Items that are noted one behind another.
use Rattle.std.proofs.Common.{◌≡◌, ℕ, zero, suc, ◌+◌, ◌<◌, List, [], ◌∷◌, ◌++◌, Option, Some, length, take, drop, reverse, refl, sym, ap, ◌∙◌, subst, arith}
use Rattle.std.specs.List.{slice_get}
use Rattle.std.proofs.lemmas.List.{reverse-append}
use Rattle.std.proofs.lemmas.List.Sums.{sum_by-cons}
use Rattle.acc_stamp.specs.declared.actors.Actor.{Actor}
use Rattle.acc_stamp.specs.declared.stamps.TxnId.{TxnId}
use Rattle.acc_message_index.specs.Standing.{Standing, is_down_at}
use Rattle.acc_message.specs.declared.message.Message.{Message}
use Rattle.acc_message.specs.declared.item.Item.{Item}
use Rattle.acc_message.specs.declared.shown.Shown.{Shown}
use Rattle.acc_message.specs.declared.shown.Shown.TheVariants.{Step, Skipped, Down}
use Rattle.acc_message.specs.Items.{sent_in, begins_txn, id_begun, is_begun, id_of_txn}
use Rattle.acc_message.specs.Run.{down_after}
use Rattle.acc_message.specs.Shown.{with_sent}
use Rattle.acc_message_code.specs.Weight.{weight_of, weight_of_items}
use Rattle.acc_schedule_runs.specs.Situations.{Situation, whole}
use Rattle.acc_schedule_runs.specs.Moves.{with_item}
use Rattle.acc_history.specs.Begun.{begun_in, begun_as, begun_with}
use Rattle.acc_history.specs.Entering.{IsAsBefore, without_item, postings_in}
use Rattle.acc_history.specs.Stands.{TakesSent, Holds, IsNoted, situation_of}
use Rattle.acc_history.proofs.Entered.{holds_added}
use Rattle.acc_history.proofs.Raised.{begun_more}

-- ---- an item of a list

-- what is shown of an item, with what it sent, is the item
pub shown_whole : (shown : Shown) (out : List Message) → with_sent shown (sent_in (with_sent shown out)) ≡ with_sent shown out
shown_whole (Step actor lost event notes) out = refl
shown_whole (Skipped step cause) out = refl
shown_whole (Down actor) out = refl

module _ {A : Type 0} where
  -- an item with those before it and those behind it
  pub parted_at : (items : List A) (place : ℕ) (item : A) → slice_get items place ≡ Some item → items ≡ take place items ++ item ∷ drop (suc place) items
  parted_at [] place item at = cc
  parted_at (x ∷ items) zero item at = let same : x ≡ item = cc in ap (λ y. y ∷ items) same
  parted_at (x ∷ items) (suc place) item at = ap (λ l. x ∷ l) (parted_at items place item at)

  taken_suc : (items : List A) (place : ℕ) (item : A) → slice_get items place ≡ Some item → take (suc place) items ≡ take place items ++ item ∷ []
  taken_suc [] place item at = cc
  taken_suc (x ∷ items) zero item at = let same : x ≡ item = cc in ap (λ y. y ∷ []) same
  taken_suc (x ∷ items) (suc place) item at = ap (λ l. x ∷ l) (taken_suc items place item at)

  pub taken_next : (items : List A) (place : ℕ) (item : A) → slice_get items place ≡ Some item → take place items ++ item ∷ [] ≡ take (place + 1) items
  taken_next items place item at =
      let next : suc place ≡ place + 1 = omega arith in
      sym (taken_suc items place item at) ∙ ap (λ n. take n items) next

  pub length-taken_to : (items : List A) (place : ℕ) → place < length items → place ≡ length (take place items)
  length-taken_to [] place low = absurd (omega (arith, low))
  length-taken_to (x ∷ items) zero low = refl
  length-taken_to (x ∷ items) (suc place) low = ap suc (length-taken_to items place (omega (arith, low)))

-- ---- one item more

abbrev behind_none : List Item → Situation
behind_none own = record { earlier = []; own = own; dropped = []; stopped = [] }

situation_more : (before : List Item) (item : Item) → with_item item (situation_of before) ≡ situation_of (before ++ item ∷ [])
situation_more before item = ap behind_none (sym (reverse-append before (item ∷ [])))

pub noted_more : (before : List Item) (item : Item) (old prepared new : Standing) (was now : List (Option (Option TxnId))) (weight total : ℕ) (entered : Item) (place : ℕ)
    → entered ≡ item → place ≡ length before → TakesSent (situation_of before) item → IsAsBefore old prepared
    → new.sent ≡ without_item entered prepared.sent ++ postings_in place entered
    → ((a : Actor) → is_down_at new.downs a.0 ≡ down_after a entered (is_down_at prepared.downs a.0))
    → ((number : ℕ) → begun_in now number ≡ begun_with (begins_txn number entered) (id_begun number entered) (begun_in was number))
    → total ≡ weight + weight_of item → IsNoted before old was weight → IsNoted (before ++ item ∷ []) new now total
noted_more before item old prepared new was now weight total entered place same at takes as_before sent downs begun more h =
    let s : Situation = situation_of before in
    let next : with_item item s ≡ situation_of (before ++ item ∷ []) = situation_more before item in
    let sum = sum_by-cons weight_of item s.own in
    let weighed = h.weighs in
    let total_is : total ≡ weight_of item + weight = omega (arith, more) in
    record {
      holds = subst (λ (t : Situation). Holds (before ++ item ∷ []) new t) next (holds_added h.holds item takes prepared new entered (before ++ item ∷ []) place as_before same at refl sent downs);
      begun = λ txn.
          begun_more s item entered txn (begun_in was txn) (begun_in now txn) same (begun txn) (h.begun txn)
          ∙ ap (λ (t : Situation). begun_as (is_begun (whole t) txn) (id_of_txn (whole t) txn)) next;
      weighs = total_is ∙ ap (λ w. weight_of item + w) weighed ∙ sym sum ∙ ap (λ (t : Situation). weight_of_items t.own) next;
    }
