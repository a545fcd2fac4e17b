-- The payloads before this one are read.
use Rattle.std.proofs.Common.{take}
use Rattle.acc_left.specs.Told.{bytes_in}
use Rattle.acc_left.proofs.NodeWalk.{NodeIsRead}
use Rattle.acc_left.proofs.nodes.enter_node.Given as goal

abbrev pub invariant-loop-payload : goal.invariant-loop-payload
invariant-loop-payload l = NodeIsRead l.plan l.node (take l.payload-index (bytes_in l.payloads)) l.told l.initial.drawn.draws l.drawn.draws l.gate
