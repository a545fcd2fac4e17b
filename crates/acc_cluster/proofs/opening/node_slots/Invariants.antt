use Rattle.std.proofs.Common.{◌≡◌, [], ◌++◌, length}
use Rattle.std.specs.Vec.Iter.{into_iter_items}
use Rattle.acc_cluster.specs.Opened.{AreFilled, AreFilledStrictly}
use Rattle.acc_cluster.proofs.opening.node_slots.Given as goal

abbrev pub invariant-loop-node : goal.invariant-loop-node
invariant-loop-node g l = record {
  can_next : (goal.iterator-loop-node g).can_next l.node-iterator;
  is_finite : (goal.iterator-loop-node g).is_finite l.node-iterator;
  rest : l.yielded ++ into_iter_items l.node-iterator ≡ l.fn.nodes.items;
  place : l.place ≡ length l.yielded;
  filled : AreFilled g.D.Disk l.plan l.yielded [] l.slots.items;
  strictly : AreFilledStrictly g.D.Disk l.plan l.yielded [] l.slots.items;
}
