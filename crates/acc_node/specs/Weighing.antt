-- What a node may weigh: it stands for acts after which it would send short messages, whose lengths fit 64 bits together.
use Rattle.std.specs.Prelude.{ℕ, ◌<◌, ◌^◌, Bool, true, false, List, All}
use Rattle.acc_stamp.specs.declared.stamps.TxnId.{TxnId}
use Rattle.acc_topology.specs.Layout.{Layout}
use Rattle.acc_message.specs.declared.message.Message.{Message}
use Rattle.acc_message.specs.declared.message.Message.TheVariants.{Inform}
use Rattle.acc_message.specs.Attempts.{Attempt}
use Rattle.acc_message.specs.Coordinator.{Reaction}
use Rattle.acc_message.specs.NodeRules.{Act, node_emits, node_replay}
use Rattle.acc_message_code.specs.Short.{IsShortMessage}
use Rattle.acc_message_code.specs.Weight.{weight_of_all}
use Rattle.acc_coord.specs.Weighing.{sent_on}
use Rattle.acc_recover.specs.declared.recovery.Recovery.{Recovery}
use Rattle.acc_recover.specs.declared.judged.Judged.{Judged}
use Rattle.acc_recover.specs.Stands.{StandsFor as Recovers, WouldJudgeAs}
use Rattle.acc_node.specs.declared.node.Node.{Node}
use Rattle.acc_node.specs.declared.running.Running.{Running}
use Rattle.acc_node.specs.Stands.{StandsFor, RunsAs}

-- the message tells the outcome to the node that began the transaction
abbrev pub is_inform : Message → Bool
is_inform (Inform from to id b outcome) = true
is_inform _ = false

-- what a node sends that took these acts, the newest first, and takes one more
abbrev pub node_sends : Layout → ℕ → ℕ → List Act → Act → List Message
node_sends layout number start acts act = (node_emits layout number start (node_replay layout number start acts) act).out

pub record SendsShort (layout : Layout) (n : Node) (act : Act) : Type 0 where
  pub number : ℕ
  pub start : ℕ
  pub acts : List Act
  pub stands : StandsFor layout number start n acts
  pub short : All IsShortMessage (node_sends layout number start acts act)
  pub fits : weight_of_all (node_sends layout number start acts act) < 2 ^ 64

-- the same of an attempt that takes a message, and of one that goes on as a recovery judged
pub record AttemptSendsShort (layout : Layout) (x : TxnId) (running : Running) (m : Message) : Type 0 where
  pub attempt : Attempt
  pub runs : RunsAs layout x running attempt
  pub short : All IsShortMessage (sent_on layout x attempt m)
  pub fits : weight_of_all (sent_on layout x attempt m) < 2 ^ 64

pub record JudgedSendsShort (layout : Layout) (x : TxnId) (recovery : Recovery) (judged : Judged) : Type 0 where
  pub attempt : Attempt
  pub reaction : Reaction
  pub stands : Recovers layout x recovery attempt
  pub judges : WouldJudgeAs layout x attempt reaction judged
  pub short : All IsShortMessage reaction.emitted.out
  pub fits : weight_of_all reaction.emitted.out < 2 ^ 64
