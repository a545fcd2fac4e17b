-- The actors of the nodes before this one are listed.
use Rattle.std.proofs.Common.{◌≡◌}
use Rattle.acc_left.proofs.ActorFacts.{actors_below}
use Rattle.acc_left.proofs.actors.actors_of.Given as goal

abbrev pub invariant-loop-node : goal.invariant-loop-node
invariant-loop-node l = l.actors ≡ actors_below l.topology l.nodes l.node
