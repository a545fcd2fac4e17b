-- Tapes with all their seats.
use Rattle.std.specs.Prelude.{◌≡◌, ◌≢◌, length}
use Rattle.std.specs.List.{All}
use Rattle.acc_tape.specs.Seats.{TapeName}
use Rattle.acc_tape_tables.specs.declared.chair.Chair.{Chair}
use Rattle.acc_tape_tables.specs.declared.hall.Hall.{Hall}

-- the chair has the seat of its actor at this tape, and knows what that holds
pub record IsChair (tape : TapeName) (chair : Chair) : Type 0 where
  pub tape_is : chair.seat.tape ≡ tape
  pub actor_is : chair.seat.actor ≡ chair.actor
  pub actor_isnt : chair.actor ≢ 0
  pub items_are : chair.seat.held_items ≡ chair.items
  pub bytes_are : chair.seat.held_weight ≡ chair.bytes

-- the first seat is of this tape, and each that was split from it has its chair
pub record IsHall (hall : Hall) : Type 0 where
  pub first_is : hall.first.tape ≡ hall.tape
  pub actor_is : hall.first.actor ≡ 0
  pub made_is : hall.first.made ≡ hall.made.items
  pub counted : length hall.chairs.items ≡ length hall.made.items
  pub chairs_are : All (IsChair hall.tape) hall.chairs.items
