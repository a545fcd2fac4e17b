-- What desks entered at one tape, side by side.
use Rattle.std.specs.Prelude.{◌≡◌, List, reverse, All, Any}
use Rattle.acc_message.specs.declared.item.Item.{Item}
use Rattle.acc_message.specs.Run.{IsRun}
use Rattle.acc_schedule.specs.Content.{Content}
use Rattle.acc_schedule_runs.specs.Schedules.{cluster_of}
use Rattle.acc_tape.specs.Lists.{items_of}
use Rattle.acc_tape.specs.ItemViews.{actor_of_item}
use Rattle.acc_tape.specs.Seats.{SeatView}
use Rattle.acc_desk.specs.declared.desk.Desk.{Desk}

abbrev pub seat_of : {D J : Type 0} → Desk D J → SeatView Item
seat_of desk = desk.seat

-- The items, the oldest first, are a run of the plan's cluster. In it the items of each desk's actor are those that the desk entered, each
-- once and in their order, and every item is of one of the desks.
pub record AreEnteredBy {D J : Type 0} (plan : Content) (desks : List (Desk D J)) (items : List Item) : Type 0 where
  pub run : IsRun (cluster_of plan) (reverse items)
  pub own : All (λ (desk : Desk D J). items_of actor_of_item desk.actor.0 items ≡ desk.seat.mine) desks
  pub owned : All (λ (item : Item). Any (λ (desk : Desk D J). actor_of_item item ≡ desk.actor.0) desks) items
