-- Nodes of the layout.
use Rattle.acc_stamp.specs.Actor.{actor_of}
use Rattle.acc_safety.proofs.PlaceOrder.{IsIn-Contains}
use Rattle.acc_schedule.specs.Actors.{actors}
use Rattle.acc_run_laws.proofs.Layouts.{node_is, at_node, at_home}
use Rattle.acc_run_laws.proofs.receivers.nodes_are_actors.Goals as goal

pub returns-clause-node : goal.returns-clause-node
returns-clause-node c = λ layout node among. IsIn-Contains (actor_of node 0) (actors layout) (node_is layout node among)

pub returns-clause-of_layout : goal.returns-clause-of_layout
returns-clause-of_layout c = λ layout a of. IsIn-Contains a (actors layout) (at_node layout a of)

pub returns-clause-home : goal.returns-clause-home
returns-clause-home c = λ cluster txn a valid at. IsIn-Contains a (actors cluster.layout) (at_home cluster valid txn a at)
