-- The values that are appended stand after those of before, and for the rest there is room.
use Rattle.std.proofs.Common.{◌≡◌, ◌+◌, ◌≤◌, ◌++◌, length}
use Rattle.std.specs.Vec.{vec_capacity}
use Rattle.std.specs.Vec.Iter.{into_iter_items}
use Rattle.acc_message.proofs.head.append.Given as goal

abbrev pub invariant-loop-value : goal.invariant-loop-value
invariant-loop-value g l = record {
  can_next : (goal.iterator-loop-value g).can_next l.value-iterator;
  is_finite : (goal.iterator-loop-value g).is_finite l.value-iterator;
  all : l.list.items ++ into_iter_items l.value-iterator ≡ l.initial.list.items ++ l.fn.more;
  capacity : vec_capacity l.list ≡ vec_capacity l.initial.list;
  room : length l.list.items + length (into_iter_items l.value-iterator) ≤ vec_capacity l.initial.list;
}
