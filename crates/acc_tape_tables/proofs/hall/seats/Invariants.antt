-- The seats so far are those of the first chairs, and hold nothing.
use Rattle.std.proofs.Common.{◌≡◌, ◌++◌, length, All}
use Rattle.std.specs.Vec.Iter.{into_iter_items}
use Rattle.acc_tape_tables.proofs.hall.seats.Given as goal

abbrev pub invariant-loop-chair : goal.invariant-loop-chair
invariant-loop-chair l = record {
  can_next : goal.iterator-loop-chair.can_next l.chair-iterator;
  is_finite : goal.iterator-loop-chair.is_finite l.chair-iterator;
  rest : l.yielded ++ into_iter_items l.chair-iterator ≡ l.fn.chairs.items;
  count : length l.seats ≡ length l.yielded;
  free : All (λ seat. (seat.tape ≡ l.fn.tape) × (seat.held_items ≡ 0) × (seat.held_weight ≡ 0)) l.seats;
}
