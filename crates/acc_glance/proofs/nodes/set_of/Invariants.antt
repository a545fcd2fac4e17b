-- The set has the nodes so far that are among the others.
use Rattle.std.proofs.Common.{◌≡◌, ℕ, ◌&&◌, take}
use Rattle.acc_topology.specs.Sets.{in_set, is_among}
use Rattle.acc_glance.proofs.nodes.set_of.Given as goal

abbrev pub invariant-loop-node : goal.invariant-loop-node
invariant-loop-node l = (n : ℕ) → in_set l.set n ≡ (in_set l.among n && is_among (take l.node-index l.nodes) n)
