-- The payloads so far are read.
use Rattle.std.proofs.Common.{take}
use Rattle.acc_payloads.proofs.NodeReading.{ReadSoFar}
use Rattle.acc_payloads.proofs.node.read_node_journal.Given as goal

abbrev pub invariant-loop-payload : goal.invariant-loop-payload
invariant-loop-payload l = ReadSoFar l.node l.version l.start (take l.payload-index l.payloads) l.told l.gate
