-- A desk after a call on the tape, and after its actor stepped.
use Rattle.std.proofs.Common.{◌≡◌, ℕ, ◌+◌, ◌-◌, ◌≤◌, Bool, false, List, [], ◌∷◌, ◌++◌, length, drop, reverse, Option, None, Some, refl, sym, ◌∙◌, ap, subst, arith, length-append}
use Rattle.std.specs.Prelude.{All, sum_by}
use Rattle.std.proofs.lemmas.List.{reverse-append, length-reverse}
use mathlib.Core.List.{IsPrefix}
use Rattle.acc_stamp.specs.declared.actors.Actor.{Actor}
use Rattle.acc_ports.specs.declared.disk.Disk.{Ghosts}
use Rattle.acc_message.specs.declared.entry.Event.{Event}
use Rattle.acc_message.specs.declared.entry.Emitted.{Emitted}
use Rattle.acc_message.specs.declared.item.Item.{Item}
use Rattle.acc_message.specs.Items.{sent_in, noted_in}
use Rattle.acc_message.specs.NodeRules.{Act}
use Rattle.acc_message_code.specs.Short.{IsShortMessage}
use Rattle.acc_message_code.specs.Weight.{weight_of}
use Rattle.acc_schedule.specs.Content.{Content}
use Rattle.acc_schedule.specs.declared.plan.Step.{Step}
use Rattle.acc_schedule_runs.specs.Situations.{Situation}
use Rattle.acc_schedule_runs.specs.Moves.{entry_of}
use Rattle.acc_schedule_runs.specs.Schedules.{cluster_of}
use Rattle.acc_schedule_runs.specs.Disks.{Disks}
use Rattle.acc_schedule_runs.specs.Limits.{most_items}
use Rattle.acc_actors.specs.declared.slot.Slot.{Slot}
use Rattle.acc_actors.specs.Slots.{IsStrictSlot}
use Rattle.acc_actors.specs.Asked.{step_by, over_disks, IsAsked, MayAsk, HasTried, HasTriedStrictly}
use Rattle.acc_free_laws.specs.FreeRun.{IsFreeRun, alone}
use Rattle.acc_tape.specs.Lists.{items_of}
use Rattle.acc_tape.specs.ItemViews.{actor_of_item}
use Rattle.acc_tape.specs.Seats.{TapeName, SeatView, Turns, FitsBehind, ComesLast}
use Rattle.acc_desk.specs.declared.hold.Hold.{Hold}
use Rattle.acc_desk.specs.Desks.{desk_with, run_with, newest, held_of, no_hold, IsSeated, IsAt, IsDesk, MayStep, item_of}
use Rattle.acc_desk.specs.Fits.{fits_plan}
use Rattle.acc_desk.proofs.Moving.{Between, between, at_on}
use Rattle.acc_desk.proofs.Noting.{noted_few}
use Rattle.acc_desk.proofs.Stepping.{here, asked, step_on, item_short, item_weighs, item_behind, stepped}

-- ---- what a seat holds

pub hold_is : (seat : SeatView Item) (hold : Hold) → seat.held_items ≡ hold.items → seat.held_weight ≡ hold.weight → held_of seat ≡ hold
hold_is seat hold items weight = λ i. record { items = items i; weight = weight i }

pub holds_items : (seat : SeatView Item) (hold : Hold) → held_of seat ≡ hold → hold.items ≤ seat.held_items
holds_items seat hold is = let e = ap (λ (h : Hold). h.items) is in omega arith

pub holds_weight : (seat : SeatView Item) (hold : Hold) → held_of seat ≡ hold → hold.weight ≤ seat.held_weight
holds_weight seat hold is = let e = ap (λ (h : Hold). h.weight) is in omega arith

-- it holds as much as before, so much where it held nothing, or nothing any more
pub held_same : (old new : SeatView Item) (hold : Hold) → held_of old ≡ hold → new.held_items ≡ old.held_items → new.held_weight ≡ old.held_weight → held_of new ≡ hold
held_same old new hold is items weight = hold_is new hold (items ∙ ap (λ (h : Hold). h.items) is) (weight ∙ ap (λ (h : Hold). h.weight) is)

pub held_first : (old new : SeatView Item) (hold : Hold) → held_of old ≡ no_hold → new.held_items ≡ old.held_items + hold.items → new.held_weight ≡ old.held_weight + hold.weight → held_of new ≡ hold
held_first old new hold is items weight =
    let none_items : old.held_items ≡ 0 = ap (λ (h : Hold). h.items) is in
    let none_weight : old.held_weight ≡ 0 = ap (λ (h : Hold). h.weight) is in
    hold_is new hold (omega arith) (omega arith)

pub held_none : (old new : SeatView Item) (hold : Hold) → held_of old ≡ hold → new.held_items ≡ old.held_items - hold.items → new.held_weight ≡ old.held_weight - hold.weight → held_of new ≡ no_hold
held_none old new hold is items weight =
    let all_items : old.held_items ≡ hold.items = ap (λ (h : Hold). h.items) is in
    let all_weight : old.held_weight ≡ hold.weight = ap (λ (h : Hold). h.weight) is in
    hold_is new no_hold (omega arith) (omega arith)

-- ---- items

pub reverse_last : (before : List Item) (item : Item) → reverse (before ++ item ∷ []) ≡ item ∷ reverse before
reverse_last before item = reverse-append before (item ∷ [])

pub at_actor : (a : Actor) (n : ℕ) (items mine : List Item) → n ≡ a.0 → items_of actor_of_item n items ≡ mine → items_of actor_of_item a.0 items ≡ mine
at_actor a n items mine is h = sym (ap (λ k. items_of actor_of_item k items) is) ∙ h

pub own_item : (a : Actor) (event : Event) (given : Option Emitted) → actor_of_item (item_of a event given) ≡ a.0
own_item a event None = refl
own_item a event (Some emitted) = refl

module _ (plan : Content) (tape : TapeName) (limits : tape.limits.items ≤ most_items) (a : Actor) where
  abbrev TurnsOf : SeatView Item → SeatView Item → Type 0
  TurnsOf old new = Turns actor_of_item weight_of (fits_plan plan) old new

  pub seen_few : (old new : SeatView Item) → TurnsOf old new → new.tape ≡ tape → length new.seen ≤ most_items
  seen_few old new turns is = let w = turns.within_items in let e = ap (λ (t : TapeName). t.limits.items) is in omega arith

  pub seen_light : (old new : SeatView Item) → TurnsOf old new → new.tape ≡ tape → sum_by weight_of new.seen ≤ tape.limits.weight
  seen_light old new turns is = let w = turns.within_weight in let e = ap (λ (t : TapeName). t.limits.weight) is in omega arith

  pub seated_on : (held later : Hold) (old new : SeatView Item) → IsSeated tape a held old → TurnsOf old new → held_of new ≡ later → IsSeated tape a later new
  seated_on held later old new seated turns is =
      record {
        tape_is = turns.tape ∙ seated.tape_is;
        actor_is = turns.actor ∙ seated.actor_is;
        some = λ z. seated.some (sym turns.actor ∙ z);
        held_is = is;
        mine_is = turns.mine;
        few = seen_few old new turns (turns.tape ∙ seated.tape_is);
        light = seen_light old new turns (turns.tape ∙ seated.tape_is);
      }

  -- others' items that came
  pub came : (held : Hold) (old new : SeatView Item) → IsSeated tape a held old → TurnsOf old new → new.mine ≡ old.mine → Between a old.seen new.seen
  came held old new seated turns same =
      between a old.seen new.seen old.mine (at_actor a old.actor old.seen old.mine seated.actor_is seated.mine_is) turns.seen
      (at_actor a new.actor new.seen old.mine (turns.actor ∙ seated.actor_is) (turns.mine ∙ same))

  pub others_since : (held : Hold) (seat : SeatView Item) → IsSeated tape a held seat → (before : List Item) → IsPrefix seat.seen before → items_of actor_of_item seat.actor before ≡ seat.mine → Between a seat.seen before
  others_since held seat seated before begins mine =
      between a seat.seen before seat.mine (at_actor a seat.actor seat.seen seat.mine seated.actor_is seated.mine_is) begins
      (at_actor a seat.actor before seat.mine seated.actor_is mine)

  pub newest_few : (held : Hold) (seat : SeatView Item) → IsSeated tape a held seat → length (newest seat) ≤ most_items
  newest_few held seat seated = let n = length-reverse seat.seen in let f = seated.few in omega arith

  module _ {D : Type 0} (port : Ghosts D) (strict_run : Bool) (commands : List Step) (gone : ℕ) (slot : Slot D) where
    abbrev Desk : Hold → SeatView Item → Type 0
    Desk held seat = IsDesk port (run_with strict_run plan tape) held (desk_with a seat slot commands gone)

    pub desk_on : (held later : Hold) (old new : SeatView Item) → Desk held old → TurnsOf old new → new.mine ≡ old.mine → held_of new ≡ later → Desk later new
    desk_on held later old new desk turns same is =
        let b = came held old new desk.seated turns same in
        record {
          known = desk.known;
          all = desk.all;
          seated = seated_on held later old new desk.seated turns is;
          at = subst (λ items. IsAt port strict_run plan a items slot (drop gone commands)) (sym b.items_are)
              (at_on port strict_run plan a (newest old) b.others slot (drop gone commands) b.apart (subst (IsFreeRun plan) b.items_are turns.fitting) desk.at);
        }

    module _ (event : Event) (act : Act) (later : ℕ) where
      abbrev May : SeatView Item → Type 0
      May seat = MayStep plan (newest seat) a event act (drop gone commands) (drop later commands)

      pub may_on : (held : Hold) (old new : SeatView Item) → Desk held old → TurnsOf old new → new.mine ≡ old.mine → May old → May new
      may_on held old new desk turns same may =
          let b = came held old new desk.seated turns same in
          subst (λ items. MayStep plan items a event act (drop gone commands) (drop later commands)) (sym b.items_are)
          (step_on plan a (newest old) b.others event act (drop gone commands) (drop later commands) b.apart (subst (IsFreeRun plan) b.items_are turns.fitting) may)

      module _ (held : Hold) (seat : SeatView Item) (desk : Desk held seat) (may : May seat) where
        few_now : length (newest seat) ≤ most_items
        few_now = newest_few held seat desk.seated

        -- what the seat has seen, as a situation
        abbrev seen_now : Situation
        seen_now = alone (newest seat) desk.at.stopped

        asked_now : IsAsked port plan seen_now (step_by a event act) slot
        asked_now = asked port strict_run plan a (newest seat) slot (drop gone commands) (drop later commands) event act desk.known few_now desk.at may

        pub asks : MayAsk port plan (step_by a event act) slot
        asks = (seen_now, asked_now)

        module _ (given : Option Emitted) (new_slot : Slot D) (tried : (s : Situation) → IsAsked port plan s (step_by a event act) slot → HasTried port plan s a event new_slot given) where
          now_tried : HasTried port plan seen_now a event new_slot given
          now_tried = tried seen_now asked_now

          pub own : actor_of_item (item_of a event given) ≡ seat.actor
          own = own_item a event given ∙ sym desk.seated.actor_is

          pub short : All IsShortMessage (sent_in (item_of a event given))
          short = item_short port strict_run plan a (newest seat) slot (drop gone commands) (drop later commands) event act desk.known few_now desk.at may given now_tried.emitted

          pub noted : length (noted_in (item_of a event given)) ≤ 2
          noted = noted_few (cluster_of plan) seen_now a event given now_tried.emitted

          pub weighs : (weight : ℕ) → ((s : Situation) → IsAsked port plan s (step_by a event act) slot → weight ≡ weight_of (entry_of (cluster_of plan) s a event false)) → weight_of (item_of a event given) ≤ weight
          weighs weight is = item_weighs port strict_run plan a (newest seat) slot (drop gone commands) (drop later commands) event act desk.known few_now desk.at may given now_tried.emitted weight (is seen_now asked_now)

          pub fits : FitsBehind actor_of_item (fits_plan plan) seat (item_of a event given)
          fits before begins mine free =
              let b = others_since held seat desk.seated before begins mine in
              let item = item_of a event given in
              subst (IsFreeRun plan) (sym (reverse_last before item ∙ ap (λ items. item ∷ items) b.items_are))
              (item_behind port strict_run plan a (newest seat) slot (drop gone commands) (drop later commands) event act desk.known few_now desk.at may given now_tried.emitted b.others b.apart (subst (IsFreeRun plan) b.items_are free))

          abbrev Strictly : Type 0
          Strictly =
              (s : Situation) (disks : Disks) → IsAsked port plan s (step_by a event act) slot → IsStrictSlot port plan s disks a slot
              → HasTriedStrictly port plan (over_disks s disks) a event new_slot given

          pub taken : Strictly → (new : SeatView Item) → TurnsOf seat new → held_of new ≡ no_hold → ComesLast actor_of_item (fits_plan plan) seat new.seen (item_of a event given) → IsDesk port (run_with strict_run plan tape) no_hold (desk_with a new new_slot commands later)
          taken strictly new turns free last =
              let item = item_of a event given in
              let b = others_since held seat desk.seated last.before last.begins last.mine in
              let run : IsFreeRun plan (b.others ++ newest seat) = subst (IsFreeRun plan) b.items_are last.fitting in
              let items = b.others ++ newest seat in
              let at' = at_on port strict_run plan a (newest seat) b.others slot (drop gone commands) b.apart run desk.at in
              let may' = step_on plan a (newest seat) b.others event act (drop gone commands) (drop later commands) b.apart run may in
              let few' : length items ≤ most_items =
              (let n = ap length b.items_are in let r = length-reverse last.before in let l = ap length last.seen_is in let m = length-append last.before (item ∷ []) in let f = seen_few seat new turns (turns.tape ∙ desk.seated.tape_is) in omega arith) in
              let here' = here port strict_run plan a items slot (drop gone commands) (drop later commands) event act desk.known few' at' may' in
              let asked' = asked port strict_run plan a items slot (drop gone commands) (drop later commands) event act desk.known few' at' may' in
              record {
                known = desk.known;
                all = desk.all;
                seated = seated_on held no_hold seat new desk.seated turns free;
                at = subst (λ all. IsAt port strict_run plan a all new_slot (drop later commands)) (sym (ap reverse last.seen_is ∙ reverse_last last.before item ∙ ap (λ all. item ∷ all) b.items_are))
                    (stepped port strict_run plan a items slot (drop gone commands) (drop later commands) event act desk.known few' at' may' given new_slot (tried here' asked') (λ disks. strictly here' disks asked'));
              }
