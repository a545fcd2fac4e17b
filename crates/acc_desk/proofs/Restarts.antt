-- A restart of the actor of a desk.
use Rattle.std.proofs.Common.{◌≡◌, ℕ, ◌+◌, ◌≤◌, Bool, true, false, List, [], ◌∷◌, ◌++◌, length, drop, reverse, Option, None, Some, Contains, refl, sym, ◌∙◌, ap, subst, arith, length-append}
use Rattle.std.specs.Prelude.{All}
use Rattle.std.proofs.lemmas.List.{length-reverse}
use Rattle.acc_stamp.specs.declared.actors.Actor.{Actor}
use Rattle.acc_ports.specs.declared.disk.Disk.{Ghosts}
use Rattle.acc_message.specs.declared.entry.Event.TheVariants.{Restart as RestartEvent}
use Rattle.acc_message.specs.declared.entry.Entry.{Entry}
use Rattle.acc_message.specs.declared.entry.Emitted.{Emitted}
use Rattle.acc_message.specs.declared.item.Item.{Item}
use Rattle.acc_message.specs.declared.item.Item.TheVariants.{Step as StepItem}
use Rattle.acc_message.specs.Items.{sent_in, noted_in}
use Rattle.acc_message.specs.Coordinator.{silence}
use Rattle.acc_message.specs.Run.{is_node}
use Rattle.acc_message_code.specs.Short.{IsShortMessage}
use Rattle.acc_message_code.specs.Weight.{weight_of}
use Rattle.acc_schedule.specs.Actors.{actors}
use Rattle.acc_schedule.specs.Content.{Content}
use Rattle.acc_schedule.specs.declared.plan.Step.{Step}
use Rattle.acc_run_laws.proofs.LostFacts.{restart_is_run}
use Rattle.acc_pasts.specs.Entries.{emitted_for, entering}
use Rattle.acc_pasts.specs.Stopped.{IsSound}
use Rattle.acc_schedule_runs.specs.Situations.{Situation, without}
use Rattle.acc_schedule_runs.specs.Moves.{reopened}
use Rattle.acc_schedule_runs.specs.Schedules.{cluster_of}
use Rattle.acc_schedule_runs.specs.Disks.{Disks, fresh_disks}
use Rattle.acc_schedule_runs.specs.Limits.{most_items}
use Rattle.acc_actors.specs.declared.slot.Slot.{Slot}
use Rattle.acc_actors.specs.Asked.{IsFew}
use Rattle.acc_actors.specs.Slots.{SlotStands, IsStrictSlot}
use Rattle.acc_free_laws.specs.Commands.{is_restart}
use Rattle.acc_free_laws.specs.FreeRun.{IsFreeRun, alone}
use Rattle.acc_free_laws.specs.Serving.{IsServing, HasGone}
use Rattle.acc_free_laws.proofs.Alone.{alone_reopened}
use Rattle.acc_free_laws.proofs.Fitting.{down_fits, free_part, free_whole, restart_fits}
use Rattle.acc_free_laws.proofs.Serving.{serving_restarted, serving_down}
use Rattle.acc_free_laws.proofs.Going.{reopened_went, stayed_down}
use Rattle.acc_tape.specs.ItemViews.{actor_of_item}
use Rattle.acc_tape.specs.Seats.{TapeName, SeatView, Turns, FitsBehind, ComesLast}
use Rattle.acc_desk.specs.declared.hold.Hold.{Hold}
use Rattle.acc_desk.specs.Desks.{desk_with, run_with, newest, held_of, no_hold, HasStayed, IsAt, IsDesk, item_of, HasReopened, HasReopenedStrictly}
use Rattle.acc_desk.specs.Fits.{fits_plan}
use Rattle.acc_desk.proofs.Moving.{at_on}
use Rattle.acc_desk.proofs.Unarmed.{reopened_fresh}
use Rattle.acc_desk.proofs.Stepping.{few_alone, stops_without}
use Rattle.acc_desk.proofs.Seating.{own_item, reverse_last, seen_few, seated_on, others_since}

-- a restart emits nothing
abbrev pub is_silent : Option Emitted → Type 0
is_silent None = Unit {0}
is_silent (Some emitted) = emitted ≡ silence

pub reopened_silent : {D : Type 0} (port : Ghosts D) (plan : Content) (s : Situation) (a : Actor) (given : Option Emitted) (slot : Slot D) → HasReopened port plan s a given slot → is_silent given
reopened_silent port plan s a None slot h = tt
reopened_silent port plan s a (Some emitted) slot h = h.0

silent_by : (plan : Content) (items : List Item) (a : Actor) → (StepItem (record { actor = a; event = RestartEvent 0; emitted = silence; lost = false })) ≡ entering (cluster_of plan) items a (RestartEvent 0) false
silent_by plan items a = by (is_node a) refl
  where
    by : (node : Bool) → is_node a ≡ node → (StepItem (record { actor = a; event = RestartEvent 0; emitted = silence; lost = false })) ≡ entering (cluster_of plan) items a (RestartEvent 0) false
    by true is = rw is refl
    by false is = rw is refl

pub restart_item : (plan : Content) (items : List Item) (a : Actor) (emitted : Emitted) → emitted ≡ silence → item_of a (RestartEvent 0) (Some emitted) ≡ entering (cluster_of plan) items a (RestartEvent 0) false
restart_item plan items a emitted is = ap (λ (e : Emitted). StepItem (record { actor = a; event = RestartEvent 0; emitted = e; lost = false })) is ∙ silent_by plan items a

-- its item fits, and sends nothing
pub restart_item_fits : (plan : Content) (items : List Item) (a : Actor) → Contains (actors plan.topology) a → IsFreeRun plan items → (given : Option Emitted) → is_silent given → IsFreeRun plan (item_of a (RestartEvent 0) given ∷ items)
restart_item_fits plan items a known free None is = down_fits plan items a known free
restart_item_fits plan items a known free (Some emitted) is =
    let e : Entry = record { actor = a; event = RestartEvent 0; emitted = emitted_for (cluster_of plan) items a (RestartEvent 0); lost = false } in
    subst (λ item. IsFreeRun plan (item ∷ items)) (sym (restart_item plan items a emitted is))
    (free_whole plan (StepItem e ∷ items) (restart_is_run (cluster_of plan) a items [] free.run tt)
    (restart_fits plan items e known (free_part plan items free) 0 refl refl (omega arith)))

pub restart_short : (a : Actor) (given : Option Emitted) → is_silent given → All IsShortMessage (sent_in (item_of a (RestartEvent 0) given))
restart_short a None is = λ k d low. absurd (omega arith)
restart_short a (Some emitted) is = subst (λ (e : Emitted). All IsShortMessage e.out) (sym is) (λ k d low. absurd (omega arith))

pub restart_noted : (a : Actor) (given : Option Emitted) → is_silent given → length (noted_in (item_of a (RestartEvent 0) given)) ≤ 2
restart_noted a None is = omega arith
restart_noted a (Some emitted) is = subst (λ (e : Emitted). length e.notes ≤ 2) (sym is) (omega arith)

pub restart_weighs : (a : Actor) (given : Option Emitted) → is_silent given → weight_of (item_of a (RestartEvent 0) given) ≤ 0
restart_weighs a None is = omega arith
restart_weighs a (Some emitted) is = subst (λ (e : Emitted). weight_of (StepItem (record { actor = a; event = RestartEvent 0; emitted = e; lost = false })) ≤ 0) (sym is) (omega arith)

module _ {D : Type 0} (port : Ghosts D) (strict_run : Bool) (plan : Content) (a : Actor) (items : List Item) (slot new_slot : Slot D) (left : List Step) (command : Step)
    (known : Contains (actors plan.topology) a) (few : length items ≤ most_items) (restart : is_restart command ≡ true) (at : IsAt port strict_run plan a items slot (command ∷ left)) where
  -- the actor stands after its restart
  pub restarted : (given : Option Emitted)
      → ((s : Situation) → IsSound (cluster_of plan) s → IsFew s → SlotStands port plan s a slot → HasReopened port plan s a given new_slot)
      → ((s : Situation) (disks : Disks) → IsSound (cluster_of plan) s → SlotStands port plan s a slot → IsStrictSlot port plan s disks a slot
      → HasReopenedStrictly port plan s disks a given new_slot)
      → IsAt port strict_run plan a (item_of a (RestartEvent 0) given ∷ items) new_slot left
  restarted None opened strictly =
      record {
        stopped = at.stopped;
        stands = opened (alone items at.stopped) at.serving.sound (few_alone items at.stopped few) at.stands;
        serving = serving_down plan (alone items at.stopped) at.serving a known;
        stops = at.stops;
        gone = stayed_down plan (alone items at.stopped) a command left restart at.gone;
        stayed = λ on. absurd (strictly (alone items at.stopped) fresh_disks at.serving.sound at.stands (at.stayed on).unarmed);
      }
  restarted (Some emitted) opened strictly =
      let s = alone items at.stopped in
      let found = opened s at.serving.sound (few_alone items at.stopped few) at.stands in
      let e = ap (λ (item : Item). alone (item ∷ items) (without a at.stopped)) (restart_item plan items a emitted found.0) ∙ sym (alone_reopened (cluster_of plan) items at.stopped a) in
      record {
        stopped = without a at.stopped;
        stands = subst (λ (t : Situation). SlotStands port plan t a new_slot) (sym e) found.1;
        serving = subst (IsServing plan) (sym e) (serving_restarted plan s at.serving a known false);
        stops = stops_without a at.stopped at.stops;
        gone = subst (λ (t : Situation). HasGone plan t a left) (sym e) (reopened_went plan s a false command left restart at.gone);
        stayed = λ on.
            let h = at.stayed on in
            let next = reopened (cluster_of plan) s a [] in
            subst (λ (t : Situation). HasStayed port plan t a new_slot) (sym e) (record {
              unarmed = reopened_fresh port plan next a new_slot (strictly s fresh_disks at.serving.sound at.stands h.unarmed);
              none = ap (without a) h.none;
              up = h.up;
            });
      }

module _ {D : Type 0} (port : Ghosts D) (strict_run : Bool) (plan : Content) (tape : TapeName) (limits : tape.limits.items ≤ most_items) (a : Actor) (commands : List Step) (gone : ℕ) (slot new_slot : Slot D) (held : Hold) (seat : SeatView Item) (command : Step)
    (desk : IsDesk port (run_with strict_run plan tape) held (desk_with a seat slot commands gone)) (next : drop gone commands ≡ command ∷ drop (gone + 1) commands) (restart : is_restart command ≡ true) (given : Option Emitted) where
  pub restart_fits_behind : is_silent given → FitsBehind actor_of_item (fits_plan plan) seat (item_of a (RestartEvent 0) given)
  restart_fits_behind silent before begins mine free =
      let item = item_of a (RestartEvent 0) given in
      subst (IsFreeRun plan) (sym (reverse_last before item)) (restart_item_fits plan (reverse before) a desk.known free given silent)

  pub restart_taken : ((s : Situation) → IsSound (cluster_of plan) s → IsFew s → SlotStands port plan s a slot → HasReopened port plan s a given new_slot)
      → ((s : Situation) (disks : Disks) → IsSound (cluster_of plan) s → SlotStands port plan s a slot → IsStrictSlot port plan s disks a slot
      → HasReopenedStrictly port plan s disks a given new_slot)
      → (new : SeatView Item) → Turns actor_of_item weight_of (fits_plan plan) seat new → held_of new ≡ no_hold → ComesLast actor_of_item (fits_plan plan) seat new.seen (item_of a (RestartEvent 0) given)
      → IsDesk port (run_with strict_run plan tape) no_hold (desk_with a new new_slot commands (gone + 1))
  restart_taken opened strictly new turns free last =
      let item = item_of a (RestartEvent 0) given in
      let b = others_since plan tape limits a held seat desk.seated last.before last.begins last.mine in
      let items = b.others ++ newest seat in
      let at' = subst (IsAt port strict_run plan a items slot) next (at_on port strict_run plan a (newest seat) b.others slot (drop gone commands) b.apart (subst (IsFreeRun plan) b.items_are last.fitting) desk.at) in
      let few' : length items ≤ most_items =
      (let n = ap length b.items_are in let r = length-reverse last.before in let l = ap length last.seen_is in let m = length-append last.before (item ∷ []) in let f = seen_few plan tape limits a seat new turns (turns.tape ∙ desk.seated.tape_is) in omega arith) in
      record {
        known = desk.known;
        all = desk.all;
        seated = seated_on plan tape limits a held no_hold seat new desk.seated turns free;
        at = subst (λ all. IsAt port strict_run plan a all new_slot (drop (gone + 1) commands)) (sym (ap reverse last.seen_is ∙ reverse_last last.before item ∙ ap (λ all. item ∷ all) b.items_are))
            (restarted port strict_run plan a items slot new_slot (drop (gone + 1) commands) command desk.known few' restart at' given opened strictly);
      }

  -- what it entered
  module _ (opened : (s : Situation) → IsSound (cluster_of plan) s → IsFew s → SlotStands port plan s a slot → HasReopened port plan s a given new_slot) where
    pub restart_silent : is_silent given
    restart_silent =
        let s = alone (newest seat) desk.at.stopped in
        let few : length (newest seat) ≤ most_items = (let n = length-reverse seat.seen in let f = desk.seated.few in omega arith) in
        reopened_silent port plan s a given new_slot (opened s desk.at.serving.sound (few_alone (newest seat) desk.at.stopped few) desk.at.stands)

    pub restart_owned : actor_of_item (item_of a (RestartEvent 0) given) ≡ seat.actor
    restart_owned = own_item a (RestartEvent 0) given ∙ sym desk.seated.actor_is
