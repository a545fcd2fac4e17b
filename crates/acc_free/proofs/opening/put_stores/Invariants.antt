-- The desks of the nodes and of the stores of the shards before this place are there.
use Rattle.std.proofs.Common.{◌≡◌, ◌+◌, ◌*◌, ◌++◌, map}
use Rattle.acc_stamp.specs.Actor.{actor_of}
use Rattle.acc_run.proofs.Numbers.{stores_to}
use Rattle.acc_desk.specs.Desks.{run_with}
use Rattle.acc_free.specs.Opened.{AreOpened}
use Rattle.acc_free.proofs.opening.put_stores.Given as goal

abbrev pub invariant-loop-place : goal.invariant-loop-place
invariant-loop-place g l = record {
  opened :
      AreOpened g.M.D.Disk (run_with g.J.Planned.strict l.plan l.tape) (map (λ node. actor_of node 0) l.plan.topology.nodes ++ stores_to l.plan.topology l.place) ((l.place + 1) * 16) l.first l.desks.items;
  given : g.M.DiskMaker.given l.disks ≡ g.M.DiskMaker.given l.initial.disks;
  kind : g.M.DiskMaker.strict l.disks ≡ g.M.DiskMaker.strict l.initial.disks;
}
