-- Desks in their parts.
use Rattle.acc_message.specs.declared.item.Item.{Item}
use Rattle.acc_tape.specs.Seats.{SeatView}
use Rattle.acc_desk.specs.declared.desk.Desk.{Desk}
use Rattle.acc_free_ending.specs.declared.rest.Rest.{Rest}

abbrev pub seat_in : {D J : Type 0} → Desk D J → SeatView Item
seat_in desk = desk.seat

abbrev pub rest_in : {D J : Type 0} → Desk D J → Rest D
rest_in desk = record { actor = desk.actor; slot = desk.slot; commands = desk.commands; gone = desk.gone }
