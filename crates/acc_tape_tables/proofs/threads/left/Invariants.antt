-- The chairs so far are the first ones.
use Rattle.std.proofs.Common.{◌≡◌, ◌++◌, length, All}
use Rattle.std.specs.Vec.Iter.{into_iter_items}
use Rattle.acc_tape_tables.specs.Halls.{IsChair}
use Rattle.acc_tape_tables.proofs.threads.left.Given as goal

abbrev pub invariant-loop-work : goal.invariant-loop-work
invariant-loop-work l = record {
  can_next : goal.iterator-loop-work.can_next l.work-iterator;
  is_finite : goal.iterator-loop-work.is_finite l.work-iterator;
  rest : l.yielded ++ into_iter_items l.work-iterator ≡ l.fn.worked.items;
  count : length l.chairs.items ≡ length l.yielded;
  are : All (IsChair l.fn.tape) l.chairs.items;
}
