-- What a seat found at its tape.
use Rattle.std.proofs.Common.{◌≡◌, ◌≢◌, ℕ, ◌+◌, ◌<◌, ◌≤◌, false, not, List, [], ◌∷◌, ◌++◌, length, map, refl, sym, ◌∙◌, ap, arith}
use Rattle.std.specs.Prelude.{All}
use Rattle.std.specs.List.{AllByRecursion}
use Rattle.std.proofs.lemmas.List.{append_assoc}
use Rattle.std.proofs.lemmas.List.Elements.{All-head, All-tail}
use Rattle.acc_stamp.specs.declared.actors.Actor.{Actor}
use Rattle.acc_message_index.specs.declared.posting.Post.{Post}
use Rattle.acc_message.specs.declared.message.Message.{Message}
use Rattle.acc_message.specs.declared.entry.Event.{Event}
use Rattle.acc_message.specs.declared.entry.Event.TheVariants.{Message as TakesMessage}
use Rattle.acc_message.specs.declared.item.Item.{Item}
use Rattle.acc_message.specs.Items.{sent_in}
use Rattle.acc_message.specs.Run.{is_node, is_down}
use Rattle.acc_message_code.specs.Weight.{weight_of}
use Rattle.acc_schedule.specs.Content.{Content}
use Rattle.acc_schedule.specs.declared.plan.Step.{Step}
use Rattle.acc_pasts.specs.Stopped.{AreDifferent}
use Rattle.acc_tape.specs.ItemViews.{actor_of_item, addressee, taken_by_item, is_lost_item}
use Rattle.acc_tape.specs.declared.view.Visit.{Visit}
use Rattle.acc_tape.specs.Messages.{AreOldest, IsSentBy, posts_in}
use Rattle.acc_tape.specs.Seats.{SeatView, Turns}
use Rattle.acc_desk.specs.Desks.{newest}
use Rattle.acc_desk.specs.Fits.{fits_plan}
use Rattle.acc_desk.specs.Groups.{events_of, joining_of, CanJoin, CanAllJoin}
use Rattle.acc_desk.proofs.Asking.{HasSent, may_take}

-- one call after another
pub turns_both : (plan : Content) (old between new : SeatView Item) → Turns actor_of_item weight_of (fits_plan plan) old between → Turns actor_of_item weight_of (fits_plan plan) between new
    → Turns actor_of_item weight_of (fits_plan plan) old new
turns_both plan old between new one two =
    let p = one.seen in
    let q = two.seen in
    let v = one.visits in
    let w = two.visits in
    record {
      tape = two.tape ∙ one.tape;
      actor = two.actor ∙ one.actor;
      seen = (p.0 ++ q.0, sym (append_assoc old.seen p.0 q.0) ∙ ap (λ (l : List Item). l ++ q.0) p.1 ∙ q.1);
      mine = two.mine;
      within_items = two.within_items;
      within_weight = two.within_weight;
      counted = two.counted;
      weighed = two.weighed;
      visits = (v.0 ++ w.0, sym (append_assoc old.visits v.0 w.0) ∙ ap (λ (l : List Visit). l ++ w.0) v.1 ∙ w.1);
      own = two.own;
      reserved = two.reserved;
      holds = two.holds;
      fitting = two.fitting;
    }

module _ (plan : Content) (a : Actor) (seat : SeatView Item) where
  abbrev Oldest : ℕ → List (Post × Message) → Type 0
  Oldest from found = AreOldest taken_by_item (λ item. map addressee (sent_in item)) is_lost_item seat.seen a.0 from (posts_in found)

  -- those after a message have other numbers
  later_apart : (number from : ℕ) (found : List (Post × Message)) → number < from → Oldest from found → AllByRecursion (λ (other : Event). TakesMessage number ≢ other) (events_of (map joining_of found))
  later_apart number from [] less oldest = tt
  later_apart number from (one ∷ found) less oldest =
      let late = oldest.0.late_enough in (
        (λ same. let e : number ≡ one.0.number = cc in absurd (omega arith)),
        later_apart number (one.0.number + 1) found (omega arith) oldest.1,
      )

  found_differ : (from : ℕ) (found : List (Post × Message)) → Oldest from found → AreDifferent (events_of (map joining_of found))
  found_differ from [] oldest = tt
  found_differ from (one ∷ found) oldest = (later_apart one.0.number (one.0.number + 1) found (omega arith) oldest.1, found_differ (one.0.number + 1) found oldest.1)

  -- what was found may join
  module _ (kind : is_node a ≡ false) (up : is_down a (newest seat) ≡ false) (left : List Step) where
    each_may : (from : ℕ) (found : List (Post × Message)) → Oldest from found → All (IsSentBy HasSent seat.seen) found → AllByRecursion (CanJoin plan (newest seat) a left) (map joining_of found)
    each_may from [] oldest sent = tt
    each_may from (one ∷ found) oldest sent =
        let s = All-head (IsSentBy HasSent seat.seen) one found sent in (
          record { may = may_take plan a seat.seen from one.0 oldest.0 s.0 s.1 one.1 s.2 up left; message = refl; journalled = ap not kind },
          each_may (one.0.number + 1) found oldest.1 (All-tail (IsSentBy HasSent seat.seen) one found sent),
        )

    pub found_may_join : (found : List (Post × Message)) → Oldest 0 found → All (IsSentBy HasSent seat.seen) found → length (map joining_of found) ≤ 16 → CanAllJoin plan (newest seat) a left (map joining_of found)
    found_may_join found oldest sent few = record { each = each_may 0 found oldest sent; different = found_differ 0 found oldest; few = few }
