-- The seats and the actors of the desks so far stand by themselves.
use Rattle.std.proofs.Common.{◌≡◌, ◌++◌, map}
use Rattle.std.specs.Vec.Iter.{into_iter_items}
use Rattle.acc_free.specs.Parts.{seat_in, rest_in}
use Rattle.acc_free.proofs.closing.apart.Given as goal

abbrev pub invariant-loop-desk : goal.invariant-loop-desk
invariant-loop-desk g l = record {
  can_next : (goal.iterator-loop-desk g).can_next l.desk-iterator;
  is_finite : (goal.iterator-loop-desk g).is_finite l.desk-iterator;
  rest : l.yielded ++ into_iter_items l.desk-iterator ≡ l.fn.desks.items;
  seats : l.seats.items ≡ map seat_in l.yielded;
  rests : l.rests.items ≡ map rest_in l.yielded;
}
