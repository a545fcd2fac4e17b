-- The stores of the shard at the nodes below this one are made.
use Rattle.std.proofs.Common.{◌≡◌, ◌++◌, IsTrue, map}
use Rattle.std.specs.List.{AllByRecursion}
use Rattle.acc_stamp.specs.Actor.{actor_of}
use Rattle.acc_durable_store.specs.Store.{actor_in}
use Rattle.acc_run.specs.Fresh.{IsFreshStore}
use Rattle.acc_run.proofs.Numbers.{members_below}
use Rattle.acc_run.proofs.Beginning.{AreFresh, IsStoreUnarmed}
use Rattle.acc_run.proofs.opening.fresh_stores_of.Given as goal

abbrev pub invariant-loop-node : goal.invariant-loop-node
invariant-loop-node g l = record {
  fresh : AreFresh actor_in (IsFreshStore g.M.D.Disk l.plan) (map actor_in l.initial.stores.items ++ map (λ node. actor_of node l.fn.shard) (members_below l.replicas l.node)) l.stores.items;
  unarmed : IsTrue (g.M.DiskMaker.strict l.initial.disks) → AllByRecursion (IsStoreUnarmed g.M.D.Disk) l.initial.stores.items
      → AllByRecursion (IsStoreUnarmed g.M.D.Disk) l.stores.items;
  given : g.M.DiskMaker.given l.disks ≡ g.M.DiskMaker.given l.initial.disks;
  kind : g.M.DiskMaker.strict l.disks ≡ g.M.DiskMaker.strict l.initial.disks;
}
