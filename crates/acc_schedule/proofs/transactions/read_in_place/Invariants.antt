-- The transactions before this one are read, with bodies that keep their rules.
use Rattle.std.proofs.Common.{◌≤◌, length}
use Rattle.std.specs.List.{AllByRecursion}
use Rattle.acc_topology.specs.Sets.{in_set}
use Rattle.acc_txn.specs.Rules.{IsBody}
use Rattle.acc_schedule.proofs.TransactionFacts.{AllRead}
use Rattle.acc_schedule.proofs.transactions.read_in_place.Given as goal

abbrev pub invariant-loop-place : goal.invariant-loop-place
invariant-loop-place l = AllRead l.version (in_set l.nodes) l.items l.place l.all.names l.all.homes l.all.bodies × (length l.items ≤ 10000) × AllByRecursion IsBody l.all.bodies
