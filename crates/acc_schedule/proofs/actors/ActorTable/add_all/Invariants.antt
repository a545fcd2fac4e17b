-- The actors of the nodes below this one are added.
use Rattle.acc_schedule.specs.Actors.{at_name}
use Rattle.acc_schedule.proofs.ActorFacts.{Adds, actors_below}
use Rattle.acc_schedule.proofs.actors.ActorTable.add_all.Given as goal

abbrev pub invariant-loop-node : goal.invariant-loop-node
invariant-loop-node l = Adds (at_name l.initial.self) (at_name l.self) (actors_below l.nodes l.shard l.node)
