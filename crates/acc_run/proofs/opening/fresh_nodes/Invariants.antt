-- The nodes below this number are made.
use Rattle.std.proofs.Common.{◌≡◌, IsTrue}
use Rattle.std.specs.List.{AllByRecursion}
use Rattle.acc_run.specs.Fresh.{IsFreshNode}
use Rattle.acc_run.proofs.Numbers.{members_below}
use Rattle.acc_run.proofs.Beginning.{AreFresh, number_in, IsNodeUnarmed}
use Rattle.acc_run.proofs.opening.fresh_nodes.Given as goal

abbrev pub invariant-loop-number : goal.invariant-loop-number
invariant-loop-number g l = record {
  fresh : AreFresh number_in (IsFreshNode g.M.D.Disk l.plan) (members_below l.members l.number) l.nodes.items;
  unarmed : IsTrue (g.M.DiskMaker.strict l.initial.disks) → AllByRecursion (IsNodeUnarmed g.M.D.Disk) l.nodes.items;
  given : g.M.DiskMaker.given l.disks ≡ g.M.DiskMaker.given l.initial.disks;
  kind : g.M.DiskMaker.strict l.disks ≡ g.M.DiskMaker.strict l.initial.disks;
}
