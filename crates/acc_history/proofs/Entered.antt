-- What is held behind one more item.
use Rattle.std.proofs.Common.{◌≡◌, ◌≢◌, ℕ, ◌+◌, ◌-◌, ◌<◌, ◌≤◌, nat_lt, Bool, true, false, not, ◌&&◌, ◌||◌, cond, List, [], ◌∷◌, ◌++◌, Option, None, Some, length, refl, sym, ap, ◌∙◌, subst, arith, length-append}
use Rattle.std.specs.List.{list_any, slice_get}
use Rattle.std.proofs.Math.ListN.{get_or-append}
use Rattle.std.proofs.lemmas.Bool.Decides.{nat_tests}
use Rattle.std.proofs.lemmas.Grind.{reverse_onto}
use mathlib.Core.Logic.{dite}
use native.Mathlib.Decide.{dec_lt}
use Rattle.acc_stamp.specs.declared.actors.Actor.{Actor}
use Rattle.acc_topology.specs.Sets.{is_among}
use Rattle.acc_message_index.specs.declared.posting.Posting.{Posting}
use Rattle.acc_message_index.specs.Mail.{nothing, posting_at}
use Rattle.acc_message_index.specs.Standing.{Standing, is_down_at}
use Rattle.acc_message.specs.declared.message.Message.{Message}
use Rattle.acc_message.specs.declared.entry.Event.{Event}
use Rattle.acc_message.specs.declared.entry.Event.TheVariants.{Begin, Recover, Slow, Message as TakesMessage, Restart}
use Rattle.acc_message.specs.declared.item.Item.{Item}
use Rattle.acc_message.specs.declared.item.Item.TheVariants.{Step, Skipped, Down}
use Rattle.acc_message.specs.Items.{sent_in, sent_of, message_at}
use Rattle.acc_message.specs.Run.{down_after, is_down}
use Rattle.acc_safety.specs.Calm.{event_takes, item_takes}
use Rattle.acc_run_laws.specs.Asks.{receiver}
use Rattle.acc_schedule_runs.specs.Situations.{Situation, whole, is_lost, is_sent_lost}
use Rattle.acc_schedule_runs.specs.Moves.{with_item}
use Rattle.acc_history.specs.Entering.{IsAsBefore, without_event, without_item, posting_of, postings_in}
use Rattle.acc_message.specs.Growing.{message_in}
use Rattle.acc_history.specs.Stands.{EventTakesSent, TakesSent, IsPosting, Holds}
use Rattle.acc_history.proofs.Lists.{get_front, get_behind, get_or_behind, get_more, get_last, get_some, closed_if, taken_at, length-taken, length-postings_of, posting_in}
use Rattle.acc_history.proofs.Raised.{down_raised}

-- ---- what an item takes

event_without : (event : Event) (sent : List Posting) (n : ℕ) → n < length sent → posting_at (without_event event sent) n ≡ closed_if (event_takes n event) (posting_at sent n)
event_without (Begin txn) sent n low = refl
event_without (Recover txn) sent n low = refl
event_without (Slow txn) sent n low = refl
event_without (TakesMessage number) sent n low = taken_at number sent n low
event_without (Restart kept) sent n low = refl

item_without : (item : Item) (sent : List Posting) (n : ℕ) → n < length sent → posting_at (without_item item sent) n ≡ closed_if (item_takes n item) (posting_at sent n)
item_without (Step e) sent n low = event_without e.event sent n low
item_without (Skipped step cause) sent n low = refl
item_without (Down actor) sent n low = refl

length-without_event : (event : Event) (sent : List Posting) → length (without_event event sent) ≡ length sent
length-without_event (Begin txn) sent = refl
length-without_event (Recover txn) sent = refl
length-without_event (Slow txn) sent = refl
length-without_event (TakesMessage number) sent = length-taken number sent
length-without_event (Restart kept) sent = refl

length-without : (item : Item) (sent : List Posting) → length (without_item item sent) ≡ length sent
length-without (Step e) sent = length-without_event e.event sent
length-without (Skipped step cause) sent = refl
length-without (Down actor) sent = refl

event_takes_none : (s : Situation) (event : Event) (n : ℕ) → EventTakesSent s event → length (sent_of s.own) ≤ n → event_takes n event ≡ false
event_takes_none s (Begin txn) n t high = refl
event_takes_none s (Recover txn) n t high = refl
event_takes_none s (Slow txn) n t high = refl
event_takes_none s (TakesMessage number) n t high = let apart : number ≢ n = omega arith in grind (arith, nat_tests)
event_takes_none s (Restart kept) n t high = refl

takes_none : (s : Situation) (item : Item) (n : ℕ) → TakesSent s item → length (sent_of s.own) ≤ n → item_takes n item ≡ false
takes_none s (Step e) n t high = event_takes_none s e.event n t high
takes_none s (Skipped step cause) n t high = refl
takes_none s (Down actor) n t high = refl

-- ---- tests

less : (n k : ℕ) → n < k → nat_lt n k ≡ true
less n k low = grind (arith, nat_tests)

not_less : (n k : ℕ) → k ≤ n → nat_lt n k ≡ false
not_less n k high = grind (arith, nat_tests)

through_old : (t a d l b x was : Bool) → b ≡ true → was ≡ not (a || (d || l)) → (not t && was) ≡ not ((t || a) || (d || cond b l x))
through_old true a d l b x was e h = refl
through_old false a d l true x was e h = h
through_old false a d l false x was e h = cc

through_new : (t a d b x lost : Bool) → t ≡ false → (a || d) ≡ false → b ≡ false → not lost ≡ not ((t || a) || (d || cond b x lost))
through_new true a d b x lost e u v = cc
through_new false true d b x lost e u v = cc
through_new false false true b x lost e u v = cc
through_new false false false true x lost e u v = cc
through_new false false false false x lost e u v = refl

none_more : (t a d : Bool) → t ≡ false → (a || d) ≡ false → ((t || a) || d) ≡ false
none_more true a d e u = cc
none_more false a d e u = u

-- ---- one more item

module _ {items : List Item} {w : Standing} {s : Situation} (h : Holds items w s) (item : Item) (takes : TakesSent s item) (after : Standing)
    (sent_is : after.sent ≡ without_item item w.sent ++ postings_in (length items) item)
    (downs_are : (a : Actor) → is_down_at after.downs a.0 ≡ down_after a item (is_down_at w.downs a.0)) where
  abbrev next : Situation
  next = with_item item s

  abbrev old : ℕ
  old = length (sent_of s.own)

  abbrev without : List Posting
  without = without_item item w.sent

  abbrev added : List Posting
  added = postings_in (length items) item

  count : length without ≡ length (sent_of s.own)
  count = length-without item w.sent ∙ h.sent_are

  all_sent : length (sent_of next.own) ≡ length (sent_of s.own) + length (sent_in item)
  all_sent = length-append (sent_of s.own) (sent_in item)

  old_posting : (n : ℕ) → n < old → posting_at after.sent n ≡ closed_if (item_takes n item) (posting_at w.sent n)
  old_posting n low =
      ap (λ l. posting_at l n) sent_is
      ∙ get_or-append without added nothing n (omega (arith, count))
      ∙ item_without item w.sent n (omega (arith, h.sent_are))

  old_message : (n : ℕ) → n < old → message_at next.own n ≡ message_at s.own n
  old_message n low = get_front (sent_of s.own) (sent_in item) n low

  kept_in : (n index : ℕ) (o : Option Message) (m : Message) → o ≡ Some m → message_in (slice_get items n) index ≡ o → message_in (slice_get (items ++ item ∷ []) n) index ≡ o
  kept_in n index o m is e = stays (slice_get items n) refl e
    where
      stays : (there : Option Item) → slice_get items n ≡ there → message_in there index ≡ o → message_in (slice_get (items ++ item ∷ []) n) index ≡ o
      stays None at f = let gone : None ≡ Some m = f ∙ is in cc
      stays (Some x) at f = ap (λ y. message_in y index) (get_more items (item ∷ []) n x at) ∙ f

  old_one : (n : ℕ) → n < old → IsPosting (items ++ item ∷ []) next n (closed_if (item_takes n item) (posting_at w.sent n))
  old_one n low =
      let p = h.postings n low in
      let some = get_some (sent_of s.own) n low in record {
        message = kept_in (posting_at w.sent n).place (posting_at w.sent n).index (message_at s.own n) some.0 some.1 p.message ∙ sym (old_message n low);
        goes_to = p.goes_to ∙ ap (λ o. (receiver o).0) (sym (old_message n low));
        is_open = through_old (item_takes n item) (list_any (item_takes n) s.own) (is_among s.dropped n) (is_sent_lost s.own n) (nat_lt n old) (is_lost item) (posting_at w.sent n).is_open (less n old low) p.is_open;
      }

  new_message : (n : ℕ) → old ≤ n → message_at next.own n ≡ slice_get (sent_in item) (n - old)
  new_message n high = get_behind (sent_of s.own) (sent_in item) n high

  new_posting : (n : ℕ) (m : Message) → old ≤ n → slice_get (sent_in item) (n - old) ≡ Some m → posting_at after.sent n ≡ posting_of (length items) (0 + (n - old)) (is_lost item) m
  new_posting n m high is =
      let same : n - length without ≡ n - old = ap (λ k. n - k) count in
      ap (λ l. posting_at l n) sent_is
      ∙ get_or_behind without added nothing n (omega (arith, count))
      ∙ ap (λ k. posting_at added k) same
      ∙ posting_in (length items) 0 (is_lost item) (sent_in item) (n - old) m is

  new_one : (n : ℕ) (m : Message) → old ≤ n → slice_get (sent_in item) (n - old) ≡ Some m → IsPosting (items ++ item ∷ []) next n (posting_of (length items) (0 + (n - old)) (is_lost item) m)
  new_one n m high is =
      let place : 0 + (n - old) ≡ n - old = omega arith in record {
        message = ap (λ o. message_in o (0 + (n - old))) (get_last items item) ∙ ap (λ k. slice_get (sent_in item) k) place ∙ sym (new_message n high);
        goes_to = ap (λ o. (receiver o).0) (sym is) ∙ ap (λ o. (receiver o).0) (sym (new_message n high));
        is_open = through_new (item_takes n item) (list_any (item_takes n) s.own) (is_among s.dropped n) (nat_lt n old) (is_sent_lost s.own n) (is_lost item) (takes_none s item n takes high) (h.unsent n high) (not_less n old high);
      }

  each_posting : (n : ℕ) → n < length (sent_of next.own) → IsPosting (items ++ item ∷ []) next n (posting_at after.sent n)
  each_posting n within = dite (dec_lt n old)
      (λ low. subst (λ p. IsPosting (items ++ item ∷ []) next n p) (sym (old_posting n low)) (old_one n low))
      (λ behind.
      let high : old ≤ n = omega arith in
      let some = get_some (sent_in item) (n - old) (omega (arith, all_sent)) in
      subst (λ p. IsPosting (items ++ item ∷ []) next n p) (sym (new_posting n some.0 high some.1)) (new_one n some.0 high some.1))

  pub holds_item : Holds (items ++ item ∷ []) after next
  holds_item = record {
    items_are = ap (λ l. l ++ item ∷ []) h.items_are ∙ sym (reverse_onto s.own item []);
    sent_are =
        ap length sent_is
        ∙ length-append without added
        ∙ ap (λ k. k + length added) count
        ∙ ap (λ k. old + k) (length-postings_of (length items) 0 (is_lost item) (sent_in item))
        ∙ sym all_sent;
    unsent = λ n high.
        let low : old ≤ n = omega (arith, all_sent) in
        none_more (item_takes n item) (list_any (item_takes n) s.own) (is_among s.dropped n) (takes_none s item n takes low) (h.unsent n low);
    postings = each_posting;
    downs = λ a. downs_are a ∙ ap (λ b. down_after a item b) (h.downs a) ∙ sym (down_raised (length (sent_of s.earlier)) a item (is_down a (whole s)));
  }

-- ---- room alone

pub holds_before : {items : List Item} {w : Standing} {s : Situation} → Holds items w s → (after : Standing) → IsAsBefore w after → Holds items after s
holds_before {items} {w} {s} h after same = record {
  items_are = h.items_are;
  sent_are = ap length same.sent ∙ h.sent_are;
  unsent = h.unsent;
  postings = λ n low. subst (λ l. IsPosting items s n (posting_at l n)) (sym same.sent) (h.postings n low);
  downs = λ a. same.downs a.0 ∙ h.downs a;
}

-- the item is entered behind room for it
pub holds_added : {items : List Item} {w : Standing} {s : Situation} (h : Holds items w s) (item : Item) → TakesSent s item → (prepared after : Standing) (entered : Item) (items' : List Item) (place : ℕ)
    → IsAsBefore w prepared → entered ≡ item → place ≡ length items → items' ≡ items ++ item ∷ []
    → after.sent ≡ without_item entered prepared.sent ++ postings_in place entered
    → ((a : Actor) → is_down_at after.downs a.0 ≡ down_after a entered (is_down_at prepared.downs a.0)) → Holds items' after (with_item item s)
holds_added {items} {w} {s} h item takes prepared after entered items' place same is at more sent downs =
    subst (λ l. Holds l after (with_item item s)) (sym more) (holds_item (holds_before h prepared same) item takes after
    (sent ∙ ap (λ x. without_item x prepared.sent ++ postings_in place x) is ∙ ap (λ p. without_item item prepared.sent ++ postings_in p item) at)
    (λ a. downs a ∙ ap (λ x. down_after a x (is_down_at prepared.downs a.0)) is))
