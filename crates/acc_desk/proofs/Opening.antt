-- A desk before its actor did anything, and after the closed list.
use Rattle.std.proofs.Common.{◌≡◌, ◌≢◌, ℕ, ◌≤◌, Bool, true, List, [], ◌++◌, drop, reverse, Contains, refl, sym, ◌∙◌, ap, subst}
use mathlib.Core.List.{IsPrefix}
use Rattle.acc_stamp.specs.declared.actors.Actor.{Actor}
use Rattle.acc_ports.specs.declared.disk.Disk.{Ghosts}
use Rattle.acc_message.specs.declared.item.Item.{Item}
use Rattle.acc_message_code.specs.Weight.{weight_of}
use Rattle.acc_schedule.specs.Actors.{actors}
use Rattle.acc_schedule.specs.Content.{Content}
use Rattle.acc_schedule.specs.declared.plan.Step.{Step}
use Rattle.acc_schedule_runs.specs.Disks.{fresh_disks}
use Rattle.acc_schedule_runs.specs.Limits.{most_items}
use Rattle.acc_actors.specs.declared.slot.Slot.{Slot}
use Rattle.acc_actors.specs.Slots.{SlotStands, IsStrictSlot}
use Rattle.acc_free_laws.specs.Commands.{commands_of}
use Rattle.acc_free_laws.specs.FreeRun.{IsFreeRun, alone}
use Rattle.acc_free_laws.specs.Serving.{IsServing}
use Rattle.acc_free_laws.proofs.Going.{gone_begins}
use Rattle.acc_tape.specs.Lists.{items_of}
use Rattle.acc_tape.specs.ItemViews.{actor_of_item}
use Rattle.acc_tape.specs.Seats.{TapeName, SeatView, Turns}
use Rattle.acc_desk.specs.declared.hold.Hold.{Hold}
use Rattle.acc_desk.specs.Desks.{desk_with, run_with, newest, no_hold, IsAt, IsDesk}
use Rattle.acc_desk.specs.Fits.{fits_plan}
use Rattle.acc_desk.proofs.Moving.{Between, between, at_on}
use Rattle.acc_desk.proofs.Seating.{hold_is, seen_few, seen_light, others_since}

module _ {D : Type 0} (port : Ghosts D) (strict_run : Bool) (plan : Content) (tape : TapeName) (limits : tape.limits.items ≤ most_items) (a : Actor) (slot : Slot D) where
  -- nothing was entered
  abbrev StrictFirst : Type 0
  StrictFirst = strict_run ≡ true → IsStrictSlot port plan (alone [] []) fresh_disks a slot

  at_first : IsServing plan (alone [] []) → SlotStands port plan (alone [] []) a slot → StrictFirst → IsAt port strict_run plan a [] slot (commands_of plan a)
  at_first serving stands strictly =
      record { stopped = []; stands = stands; serving = serving; stops = λ b apart. refl; gone = gone_begins plan a; stayed = λ on. record { unarmed = strictly on; none = refl; up = refl } }

  -- others entered items while the desk was made
  pub first_desk : IsServing plan (alone [] []) → Contains (actors plan.topology) a → (commands : List Step) → commands ≡ commands_of plan a
      → (old new : SeatView Item) → old.tape ≡ tape → old.actor ≡ a.0 → old.actor ≢ 0 → old.mine ≡ [] → (old.held_items ≡ 0) × (old.held_weight ≡ 0) → Turns actor_of_item weight_of (fits_plan plan) old new → new.mine ≡ old.mine → (new.held_items ≡ old.held_items) × (new.held_weight ≡ old.held_weight)
      → SlotStands port plan (alone [] []) a slot → StrictFirst → IsDesk port (run_with strict_run plan tape) no_hold (desk_with a new slot commands 0)
  first_desk serving known commands all old new tape_is actor_is some mine_is held_is turns same_mine same_held stands strictly =
      let owned : items_of actor_of_item a.0 new.seen ≡ [] =
      sym (ap (λ k. items_of actor_of_item k new.seen) (turns.actor ∙ actor_is)) ∙ turns.mine ∙ same_mine ∙ mine_is in
      let b : Between a [] new.seen = between a [] new.seen [] refl (new.seen, refl) owned in
      let begun = at_on port strict_run plan a [] b.others slot (commands_of plan a) b.apart (subst (IsFreeRun plan) b.items_are turns.fitting) (at_first serving stands strictly) in
      record {
        known = known;
        all = all;
        seated = record {
          tape_is = turns.tape ∙ tape_is;
          actor_is = turns.actor ∙ actor_is;
          some = λ z. some (sym turns.actor ∙ z);
          held_is = hold_is new no_hold (same_held.0 ∙ held_is.0) (same_held.1 ∙ held_is.1);
          mine_is = turns.mine;
          few = seen_few plan tape limits a old new turns (turns.tape ∙ tape_is);
          light = seen_light plan tape limits a old new turns (turns.tape ∙ tape_is);
        };
        at = subst (λ items. IsAt port strict_run plan a items slot (drop 0 commands)) (sym b.items_are)
            (subst (λ left. IsAt port strict_run plan a (b.others ++ []) slot left) (sym all) begun);
      }

  -- the actor stands for the closed list
  pub at_closed : (held : Hold) (seat : SeatView Item) (commands : List Step) (gone : ℕ) → IsDesk port (run_with strict_run plan tape) held (desk_with a seat slot commands gone)
      → (items : List Item) → IsPrefix seat.seen items → items_of actor_of_item seat.actor items ≡ seat.mine → IsFreeRun plan (reverse items) → IsAt port strict_run plan a (reverse items) slot (drop gone commands)
  at_closed held seat commands gone desk items begins mine free =
      let b = others_since plan tape limits a held seat desk.seated items begins mine in
      subst (λ all. IsAt port strict_run plan a all slot (drop gone commands)) (sym b.items_are)
      (at_on port strict_run plan a (newest seat) b.others slot (drop gone commands) b.apart (subst (IsFreeRun plan) b.items_are free) desk.at)
