-- What an append promises, as the steps of a durable node hand it on.
use Rattle.std.proofs.Common.{◌≡◌, List, ℕ, subst}
use Rattle.acc_ports.specs.declared.disk.Disk.{Ghosts}
use Rattle.acc_journal.specs.Calls.{Answer, Appends}
use Rattle.acc_durable_node.specs.declared.node.DurableNode.{DurableNode}
use Rattle.acc_durable_node.specs.Node.{with_spare}

-- a node whose journal has more room
pub node_appends : {D : Type 0} (port : Ghosts D) (old mid : DurableNode D) (spare : ℕ) (new : D) (group drawn : List (List ℕ)) (answer : Answer) → mid ≡ with_spare old spare → group ≡ drawn → Appends port mid.journal.disk new mid.journal.payloads group answer → Appends port old.journal.disk new old.journal.payloads drawn answer
node_appends {D} port old mid spare new group drawn answer is drew appends =
    subst (λ (l : List (List ℕ)). Appends port old.journal.disk new old.journal.payloads l answer) drew
    (subst (λ (n : DurableNode D). Appends port n.journal.disk new n.journal.payloads group answer) is appends)
