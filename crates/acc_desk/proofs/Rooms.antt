-- The tape refuses what an actor would enter.
use Rattle.std.proofs.Common.{◌≡◌, ◌⊎◌, ℕ, ◌+◌, ◌<◌, ◌≤◌, Bool, false, List, length, drop, inl, inr, refl, ◌∙◌, ap, subst, arith}
use Rattle.std.specs.Prelude.{sum_by}
use Rattle.acc_stamp.specs.declared.actors.Actor.{Actor}
use Rattle.acc_ports.specs.declared.disk.Disk.{Ghosts}
use Rattle.acc_message.specs.declared.entry.Event.{Event}
use Rattle.acc_message.specs.declared.error.Which.{Which}
use Rattle.acc_message.specs.declared.error.Which.TheVariants.{Document, Items, Bytes}
use Rattle.acc_message.specs.declared.item.Item.{Item}
use Rattle.acc_message.specs.NodeRules.{Act}
use Rattle.acc_message_code.specs.Weight.{weight_of}
use Rattle.acc_schedule.specs.Content.{Content}
use Rattle.acc_schedule.specs.declared.plan.Step.{Step}
use Rattle.acc_pasts.specs.Entries.{entering}
use Rattle.acc_schedule_runs.specs.Situations.{Situation}
use Rattle.acc_schedule_runs.specs.Moves.{entry_of}
use Rattle.acc_schedule_runs.specs.Schedules.{cluster_of}
use Rattle.acc_schedule_runs.specs.Limits.{most_items}
use Rattle.acc_actors.specs.declared.slot.Slot.{Slot}
use Rattle.acc_actors.specs.Asked.{step_by, IsAsked}
use Rattle.acc_free_laws.specs.FreeRun.{alone}
use Rattle.acc_free_laws.proofs.Alone.{entry_is}
use Rattle.acc_tape.specs.declared.content.Limits.{Limits}
use Rattle.acc_tape.specs.declared.error.TapeError.TheVariants.{Full}
use Rattle.acc_tape.specs.Refusals.{Refuses}
use Rattle.acc_tape.specs.Seats.{TapeName, SeatView}
use Rattle.acc_desk.specs.declared.hold.Hold.{Hold}
use Rattle.acc_desk.specs.Desks.{desk_with, run_with, newest, IsDesk, MayStep}
use Rattle.acc_desk.specs.Outcomes.{HasNoRoom}
use Rattle.acc_desk.proofs.Seating.{newest_few}
use Rattle.acc_desk.proofs.Stepping.{asked}

-- which limit one item more would pass
pub passed : (limits : Limits) (count bytes weight : ℕ) (which : Which) (number : ℕ) → Refuses limits count bytes 1 weight (Full which number) → (limits.items ≤ count) ⊎ (limits.weight < bytes + weight)
passed limits count bytes weight Document number h = absurd h
passed limits count bytes weight Items number h = let more = h.1 in inl (omega arith)
passed limits count bytes weight Bytes number h = inr h.2

module _ (plan : Content) (tape : TapeName) (a : Actor) (left later : List Step) (seat : SeatView Item) (event : Event) (act : Act) (may : MayStep plan (newest seat) a event act left later) where
  -- what the actor would enter weighs too much, if the items aren't too many
  pub lacks_room : (weight : ℕ) → weight ≡ weight_of (entering (cluster_of plan) (newest seat) a event false)
      → (tape.limits.items ≤ length seat.seen + seat.out_count) ⊎ (tape.limits.weight < sum_by weight_of seat.seen + seat.out_weight + weight)
      → HasNoRoom plan tape a left seat
  lacks_room weight is (inl many) = inl many
  lacks_room weight is (inr heavy) = inr (event, act, later, may, subst (λ w. tape.limits.weight < sum_by weight_of seat.seen + seat.out_weight + w) is heavy)

module _ {D : Type 0} (port : Ghosts D) (strict_run : Bool) (plan : Content) (tape : TapeName) (limits : tape.limits.items ≤ most_items) (a : Actor) (commands : List Step) (gone : ℕ) (slot : Slot D)
    (event : Event) (act : Act) (later : ℕ) (held : Hold) (seat : SeatView Item) (desk : IsDesk port (run_with strict_run plan tape) held (desk_with a seat slot commands gone)) (may : MayStep plan (newest seat) a event act (drop gone commands) (drop later commands)) where
  -- an actor that was asked what it would send
  pub asked_no_room : (weight : ℕ) → ((s : Situation) → IsAsked port plan s (step_by a event act) slot → weight ≡ weight_of (entry_of (cluster_of plan) s a event false))
      → (which : Which) (number : ℕ) → Refuses tape.limits (length seat.seen + seat.out_count) (sum_by weight_of seat.seen + seat.out_weight) 1 weight (Full which number)
      → HasNoRoom plan tape a (drop gone commands) seat
  asked_no_room weight is which number refuses =
      let s : Situation = alone (newest seat) desk.at.stopped in
      let few = newest_few plan tape limits a held seat desk.seated in
      let asked_now = asked port strict_run plan a (newest seat) slot (drop gone commands) (drop later commands) event act desk.known few desk.at may in
      lacks_room plan tape a (drop gone commands) (drop later commands) seat event act may weight (is s asked_now ∙ ap weight_of (entry_is (cluster_of plan) s refl a event false))
      (passed tape.limits (length seat.seen + seat.out_count) (sum_by weight_of seat.seen + seat.out_weight) weight which number refuses)
