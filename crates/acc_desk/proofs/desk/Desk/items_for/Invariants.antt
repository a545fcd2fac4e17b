use Rattle.std.proofs.Common.{◌≡◌, ◌+◌, ◌≤◌, ◌++◌, length, map}
use Rattle.std.specs.Vec.{vec_capacity}
use Rattle.std.specs.Vec.Iter.{into_iter_items}
use Rattle.acc_desk.specs.Groups.{item_of_unsent}
use Rattle.acc_desk.proofs.desk.Desk.items_for.Given as goal

abbrev pub invariant-loop-one : goal.invariant-loop-one
invariant-loop-one g l = record {
  can_next : (goal.iterator-loop-one g).can_next l.one-iterator;
  is_finite : (goal.iterator-loop-one g).is_finite l.one-iterator;
  made : l.items.items ++ map (item_of_unsent l.self.actor) (into_iter_items l.one-iterator) ≡ map (item_of_unsent l.self.actor) l.fn.unsent;
  capacity : vec_capacity l.items ≡ vec_capacity l.fn.items;
  room : length l.items.items + length (into_iter_items l.one-iterator) ≤ vec_capacity l.fn.items;
}
