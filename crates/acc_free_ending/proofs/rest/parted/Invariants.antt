-- The slots and the commands so far stand by themselves.
use Rattle.std.proofs.Common.{◌≡◌, ◌++◌, map}
use Rattle.std.specs.Vec.Iter.{into_iter_items}
use Rattle.acc_free_ending.specs.Queues.{queue_in, placed_in}
use Rattle.acc_free_ending.proofs.rest.parted.Given as goal

abbrev pub invariant-loop-rest : goal.invariant-loop-rest
invariant-loop-rest g l = record {
  can_next : (goal.iterator-loop-rest g).can_next l.rest-iterator;
  is_finite : (goal.iterator-loop-rest g).is_finite l.rest-iterator;
  rest : l.yielded ++ into_iter_items l.rest-iterator ≡ l.fn.rests.items;
  slots : l.slots.items ≡ map placed_in l.yielded;
  queues : l.queues.items ≡ map queue_in l.yielded;
}
