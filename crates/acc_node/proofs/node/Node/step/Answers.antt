use Rattle.std.proofs.Common.{refl}
use Rattle.acc_node.proofs.Standing.{stands_same}
use Rattle.acc_node.proofs.Taking.{stepped, decides_at_once}
use Rattle.acc_node.proofs.node.Node.step.Goals as goal

pub returns-clause-ok : goal.returns-clause-ok
returns-clause-ok c = λ number start acts s.
    stepped c.args.topology.now number start acts c.take.new.self _ c.args.m.now c.in_ok-emitted.emitted c.top.result
    (c.in_ok-emitted.ensures.ok number start acts s) c.saw.ensures c.top.ensures refl refl refl

pub returns-clause-fast_quorum_decides_at_once : goal.returns-clause-fast_quorum_decides_at_once
returns-clause-fast_quorum_decides_at_once c = λ number start acts s.
    decides_at_once c.args.topology.now number start acts c.args.m.now c.in_ok-emitted.emitted (c.in_ok-emitted.ensures.ok number start acts s).emits
