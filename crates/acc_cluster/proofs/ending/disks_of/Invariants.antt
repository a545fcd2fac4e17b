use Rattle.std.proofs.Common.{◌≡◌, ◌++◌, length}
use Rattle.std.specs.Vec.Iter.{into_iter_items}
use Rattle.acc_cluster.specs.Ends.{disks_from}
use Rattle.acc_cluster.proofs.ending.disks_of.Given as goal

abbrev pub invariant-loop-slot : goal.invariant-loop-slot
invariant-loop-slot g l = record {
  can_next : (goal.iterator-loop-slot g).can_next l.slot-iterator;
  is_finite : (goal.iterator-loop-slot g).is_finite l.slot-iterator;
  rest : l.yielded ++ into_iter_items l.slot-iterator ≡ l.fn.slots.items;
  number : l.number ≡ length l.yielded;
  disks : l.disks.items ≡ disks_from 0 l.yielded;
}
