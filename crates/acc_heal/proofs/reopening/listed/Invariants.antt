-- The actors of the shards before this place stand after the nodes.
use Rattle.std.proofs.Common.{◌≡◌, ◌++◌, map}
use Rattle.acc_stamp.specs.Actor.{actor_of}
use Rattle.acc_run.proofs.Numbers.{stores_to}
use Rattle.acc_heal.proofs.reopening.listed.Given as goal

abbrev pub invariant-loop-place : goal.invariant-loop-place
invariant-loop-place l = l.listed.items ≡ map (λ node. actor_of node 0) l.topology.nodes ++ stores_to l.topology l.place
