-- The actors of the shard at the nodes so far stand after the others.
use Rattle.std.proofs.Common.{◌≡◌, ◌++◌, map}
use Rattle.acc_stamp.specs.Actor.{actor_of}
use Rattle.acc_run.proofs.Numbers.{members_below}
use Rattle.acc_heal.proofs.reopening.push_actors.Given as goal

abbrev pub invariant-loop-node : goal.invariant-loop-node
invariant-loop-node l = l.listed.items ≡ l.initial.listed.items ++ map (λ node. actor_of node l.shard) (members_below l.nodes l.node)
