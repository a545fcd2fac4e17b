-- The desks of the nodes below this number are there.
use Rattle.std.proofs.Common.{◌≡◌, map}
use Rattle.acc_stamp.specs.Actor.{actor_of}
use Rattle.acc_run.proofs.Numbers.{members_below}
use Rattle.acc_desk.specs.Desks.{run_with}
use Rattle.acc_free.specs.Opened.{AreOpened}
use Rattle.acc_free.proofs.opening.put_nodes.Given as goal

abbrev pub invariant-loop-number : goal.invariant-loop-number
invariant-loop-number g l = record {
  opened :
      AreOpened g.M.D.Disk (run_with g.J.Planned.strict l.plan l.tape) (map (λ node. actor_of node 0) (members_below l.members l.number)) l.number l.first l.desks.items;
  given : g.M.DiskMaker.given l.disks ≡ g.M.DiskMaker.given l.initial.disks;
  kind : g.M.DiskMaker.strict l.disks ≡ g.M.DiskMaker.strict l.initial.disks;
}
