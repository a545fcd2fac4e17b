-- The stores of the shards before this place are made.
use Rattle.std.proofs.Common.{◌≡◌, IsTrue}
use Rattle.std.specs.List.{AllByRecursion}
use Rattle.acc_durable_store.specs.Store.{actor_in}
use Rattle.acc_run.specs.Fresh.{IsFreshStore}
use Rattle.acc_run.proofs.Numbers.{stores_to}
use Rattle.acc_run.proofs.Beginning.{AreFresh, IsStoreUnarmed}
use Rattle.acc_run.proofs.opening.fresh_stores.Given as goal

abbrev pub invariant-loop-place : goal.invariant-loop-place
invariant-loop-place g l = record {
  fresh : AreFresh actor_in (IsFreshStore g.M.D.Disk l.plan) (stores_to l.plan.topology l.place) l.stores.items;
  unarmed : IsTrue (g.M.DiskMaker.strict l.initial.disks) → AllByRecursion (IsStoreUnarmed g.M.D.Disk) l.stores.items;
  given : g.M.DiskMaker.given l.disks ≡ g.M.DiskMaker.given l.initial.disks;
  kind : g.M.DiskMaker.strict l.disks ≡ g.M.DiskMaker.strict l.initial.disks;
}
