-- The desks of the shard's stores at the nodes below this one are there.
use Rattle.std.proofs.Common.{◌≡◌, ◌+◌, ◌*◌, ◌++◌, map}
use Rattle.acc_stamp.specs.Actor.{actor_of}
use Rattle.acc_run.proofs.Numbers.{members_below}
use Rattle.acc_desk.specs.Desks.{run_with}
use Rattle.acc_free.specs.Opened.{desk_actor, AreOpened}
use Rattle.acc_free.proofs.opening.put_stores_of.Given as goal

abbrev pub invariant-loop-node : goal.invariant-loop-node
invariant-loop-node g l = record {
  opened :
      AreOpened g.M.D.Disk (run_with g.J.Planned.strict l.plan l.tape) (map desk_actor l.initial.desks.items ++ map (λ node. actor_of node l.fn.shard) (members_below l.replicas l.node)) (l.fn.shard * 16 + l.node) l.first l.desks.items;
  given : g.M.DiskMaker.given l.disks ≡ g.M.DiskMaker.given l.initial.disks;
  kind : g.M.DiskMaker.strict l.disks ≡ g.M.DiskMaker.strict l.initial.disks;
}
