-- The clock of a node by what it stands for.
use Rattle.std.proofs.Common.{◌≡◌, ℕ, List, [], ◌∷◌, refl, ap, ◌∙◌}
use Rattle.acc_stamp.specs.Clock.{ClockState}
use Rattle.acc_stamp.specs.History.{ClockEvent, Draw, See, Restart, clock_after}
use Rattle.acc_topology.specs.Layout.{Layout}
use Rattle.acc_message.specs.NodeRules.{Act, clock_events, node_replay}
use Rattle.acc_node.specs.declared.node.Node.{Node}
use Rattle.acc_node.specs.Stands.{StandsFor}

node_stays : (number start : ℕ) (past : List ClockEvent) → (clock_after number start past).node ≡ number
node_stays number start [] = refl
node_stays number start (Draw ∷ past) = node_stays number start past
node_stays number start (See h ∷ past) = node_stays number start past
node_stays number start (Restart ∷ past) = node_stays number start past

-- its number is the one that it was made with
pub number_is : (layout : Layout) (number start : ℕ) (n : Node) (acts : List Act) → StandsFor layout number start n acts → n.clock.node ≡ number
number_is layout number start n acts s =
    ap (λ (c : ClockState). c.node) s.clock_is ∙ node_stays number start (clock_events (node_replay layout number start acts))
