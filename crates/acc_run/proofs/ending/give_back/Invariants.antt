-- The disks so far are given back.
use Rattle.std.proofs.Common.{◌≡◌, ◌++◌, map}
use Rattle.std.specs.Vec.Iter.{into_iter_items}
use Rattle.acc_run.specs.Given.{numbered}
use Rattle.acc_run.proofs.ending.give_back.Given as goal

abbrev pub invariant-loop-actor : goal.invariant-loop-actor
invariant-loop-actor g l = record {
  can_next : (goal.iterator-loop-actor g).can_next l.actor-iterator;
  is_finite : (goal.iterator-loop-actor g).is_finite l.actor-iterator;
  rest : l.yielded ++ into_iter_items l.actor-iterator ≡ l.fn.ended.items;
  given : g.M.DiskMaker.given l.disks ≡ g.M.DiskMaker.given l.initial.disks ++ map numbered l.yielded;
  kind : g.M.DiskMaker.strict l.disks ≡ g.M.DiskMaker.strict l.initial.disks;
}
