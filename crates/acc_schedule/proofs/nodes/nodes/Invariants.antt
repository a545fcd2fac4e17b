-- The nodes before this one are read.
use Rattle.std.proofs.Common.{◌≤◌, All}
use Rattle.acc_schedule.specs.Nodes.{node_fault, node_of}
use Rattle.acc_schedule.proofs.EachFacts.{AreRead}
use Rattle.acc_schedule.proofs.nodes.nodes.Given as goal

abbrev pub invariant-loop-place : goal.invariant-loop-place
invariant-loop-place l = AreRead node_fault node_of l.items l.place l.nodes × All (λ n. (1 ≤ n.id) × (n.id ≤ 15)) l.nodes
