-- The slots so far stand at the numbers of their actors.
use Rattle.std.proofs.Common.{◌≡◌, ◌++◌}
use Rattle.std.specs.Vec.Iter.{into_iter_items}
use Rattle.acc_cluster.specs.Over.{ArePlaced}
use Rattle.acc_cluster.proofs.over.placed.Given as goal

abbrev pub invariant-loop-actor : goal.invariant-loop-actor
invariant-loop-actor g l = record {
  can_next : (goal.iterator-loop-actor g).can_next l.actor-iterator;
  is_finite : (goal.iterator-loop-actor g).is_finite l.actor-iterator;
  rest : l.yielded ++ into_iter_items l.actor-iterator ≡ l.fn.slots.items;
  placed : ArePlaced l.yielded l.placed.items;
}
