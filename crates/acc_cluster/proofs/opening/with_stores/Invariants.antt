use Rattle.std.proofs.Common.{◌≡◌, List, [], ◌++◌}
use Rattle.std.specs.Vec.Iter.{into_iter_items}
use Rattle.acc_durable_node.specs.declared.node.DurableNode.{DurableNode}
use Rattle.acc_cluster.specs.Opened.{AreFilled, AreFilledStrictly}
use Rattle.acc_cluster.proofs.opening.with_stores.Given as goal

abbrev pub invariant-loop-store : goal.invariant-loop-store
invariant-loop-store g l = record {
  can_next : (goal.iterator-loop-store g).can_next l.store-iterator;
  is_finite : (goal.iterator-loop-store g).is_finite l.store-iterator;
  rest : l.yielded ++ into_iter_items l.store-iterator ≡ l.fn.stores.items;
  filled : (nodes : List (DurableNode g.row.D.Denot)) → AreFilled g.D.Disk l.plan nodes [] l.fn.slots.items
      → AreFilled g.D.Disk l.plan nodes l.yielded l.full.items;
  strictly : (nodes : List (DurableNode g.row.D.Denot))
      → AreFilledStrictly g.D.Disk l.plan nodes [] l.fn.slots.items
      → AreFilledStrictly g.D.Disk l.plan nodes l.yielded l.full.items;
}
