use Rattle.std.proofs.Common.{◌≡◌, ◌++◌, map}
use Rattle.acc_stamp.specs.Actor.{actor_of}
use Rattle.acc_tally.proofs.Listed.{below}
use Rattle.acc_tally.proofs.listing.push_stores.Given as goal

abbrev pub invariant-loop-node : goal.invariant-loop-node
invariant-loop-node l = l.stores ≡ l.initial.stores ++ map (λ node. actor_of node l.shard) (below l.nodes l.node)
