-- What the journal of a node tells of its acts, for every node.
use Rattle.std.specs.Prelude.{◌≡◌, ◌++◌, ◌^◌, ◌<◌, ℕ, List, ◌∷◌, None}
use Rattle.acc_stamp.specs.declared.stamps.TxnId.{TxnId}
use Rattle.acc_topology.specs.Layout.{Layout}
use Rattle.acc_txn.specs.declared.parts.BodyParts.{BodyParts}
use Rattle.acc_message.specs.NodeRules.{Act, Begins, Recovers, Restarts}
use Rattle.acc_payloads.specs.declared.draw.Purpose.TheVariants.{Begin, Recover}
use Rattle.acc_durable_node.specs.declared.name.NodeName.{NodeName}
use Rattle.acc_durable_node.specs.Names.{id_begun}
use Rattle.acc_durable_node.specs.declared.node.DurableNode.{DurableNode}
use Rattle.acc_durable_node.specs.Node.{StandsFor, IsJournalAfter, IsLow, draw_group}

-- a node that stands for acts has their journal
abbrev pub JournalsTellActs : Type 0 → Type 0
JournalsTellActs D = (layout : Layout) (n : DurableNode D) (acts : List Act) → StandsFor layout n acts → IsJournalAfter layout n.name n.journal.payloads acts

-- with the draw of a begin appended it is the journal of these acts and the begin
abbrev pub BeginsExtendJournals : Type 0 → Type 0
BeginsExtendJournals D = (layout : Layout) (n : DurableNode D) (acts : List Act) (txn : ℕ) (body : BodyParts) → txn < 2 ^ 32 → IsLow n.node.clock → StandsFor layout n acts
    → id_begun layout n.name txn acts ≡ None
    → IsJournalAfter layout n.name (n.journal.payloads ++ draw_group n Begin txn) (Begins txn body ∷ acts)

abbrev pub RecoversExtendJournals : Type 0 → Type 0
RecoversExtendJournals D = (layout : Layout) (n : DurableNode D) (acts : List Act) (txn : ℕ) (id : TxnId) (body : BodyParts) → txn < 2 ^ 32 → IsLow n.node.clock → StandsFor layout n acts
    → IsJournalAfter layout n.name (n.journal.payloads ++ draw_group n Recover txn) (Recovers id body ∷ acts)

-- a restart draws nothing
abbrev pub RestartsKeepJournals : Type 0
RestartsKeepJournals = (layout : Layout) (name : NodeName) (payloads : List (List ℕ)) (acts : List Act) → IsJournalAfter layout name payloads acts
    → IsJournalAfter layout name payloads (Restarts ∷ acts)

-- version 2 reads a journal of version 1 as the same
abbrev pub HigherVersionsRead : Type 0
HigherVersionsRead = (layout : Layout) (name : NodeName) (payloads : List (List ℕ)) (acts : List Act) → IsJournalAfter layout (record name { version = 1 }) payloads acts
    → IsJournalAfter layout (record name { version = 2 }) payloads acts
