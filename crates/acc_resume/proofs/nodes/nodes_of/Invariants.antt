-- The nodes below this number are opened.
use Rattle.acc_durable_node.specs.declared.node.DurableNode.{DurableNode}
use Rattle.acc_ports.specs.MemoryDisk.{MemoryDisk}
use Rattle.acc_run.proofs.Numbers.{members_below}
use Rattle.acc_run.proofs.Beginning.{AreFresh, number_in}
use Rattle.acc_resume.specs.Opened.{memory, IsOpenedNode}
use Rattle.acc_resume.proofs.nodes.nodes_of.Given as goal

abbrev pub invariant-loop-number : goal.invariant-loop-number
invariant-loop-number l =
    AreFresh number_in (λ (n : DurableNode MemoryDisk). IsOpenedNode memory l.plan l.images n.name.number n) (members_below l.members l.number) l.nodes.items
