-- What a node that is up would send is what its durable node would send.
use Rattle.std.proofs.Common.{◌≡◌, ◌≤◌, ◌<◌, ◌^◌, ℕ, false, Result, Ok, Err, sym, ap, ◌∙◌, subst}
use Rattle.std.specs.Prelude.{IfOk, All}
use Rattle.acc_topology.specs.Layout.{Layout}
use Rattle.acc_ports.specs.declared.disk.Disk.{Ghosts}
use Rattle.acc_message.specs.declared.message.Message.{Message}
use Rattle.acc_message.specs.NodeRules.{Act, Takes}
use Rattle.acc_message_code.specs.Short.{IsShortMessage}
use Rattle.acc_message_code.specs.Weight.{weight_of_all}
use Rattle.acc_node.specs.Weighing.{SendsShort, node_sends}
use Rattle.acc_node.proofs.Clocks.{number_is}
use Rattle.acc_durable_node.specs.declared.name.NodeName.{NodeName}
use Rattle.acc_durable_node.specs.Names.{emits_by}
use Rattle.acc_durable_node.specs.declared.node.DurableNode.{DurableNode}
use Rattle.acc_durable_node.specs.Node as durable
use Rattle.acc_durable_node.specs.declared.state.NodeState.TheVariants.{Open}
use Rattle.acc_durable_node.specs.declared.actor.NodeActor.{NodeActor}
use Rattle.acc_payloads.specs.Stops.{Past}
use Rattle.acc_durable_node.specs.Actor as node
use Rattle.acc_durable_node.specs.Weighing.{Weighs, NodeMayWeigh}
use Rattle.acc_durable_node.proofs.Nodes as nodes

module _ {D : Type 0} (port : Ghosts D) (layout : Layout) (actor : NodeActor D) (n : DurableNode D) (is : actor.state ≡ Open n) (sound : node.is_down actor ≡ false) where
  up_here : (name : NodeName) (past : Past Act) → node.StandsFor port layout name past actor → node.IsUp layout name past n
  up_here name past stands = nodes.up_in layout name past actor.state n is (stands.up sound)

  -- its clock draws for the node
  pub few_nodes : (name : NodeName) (past : Past Act) → actor.named.name.number ≤ 15 → node.StandsFor port layout name past actor → n.node.clock.node ≤ 15
  few_nodes name past few stands =
      let up : node.IsUp layout name past n = up_here name past stands in
      subst (λ (k : ℕ). k ≤ 15) (ap (λ (m : NodeName). m.number) (stands.name_is ∙ sym up.name_is) ∙ sym (number_is layout n.name.number n.name.start n.node past.acts up.stands.stands)) few

  pub sends_short : (m : Message) → NodeMayWeigh port layout actor m → SendsShort layout n.node (Takes m)
  sends_short m may =
      let up : node.IsUp layout may.name may.past n = up_here may.name may.past may.stands in
      record {
        number = n.name.number;
        start = n.name.start;
        acts = may.past.acts;
        stands = up.stands.stands;
        short =
            subst (λ (own : NodeName). All IsShortMessage (node_sends layout own.number own.start may.past.acts (Takes m))) (sym up.name_is) may.short;
        fits =
            subst (λ (own : NodeName). weight_of_all (node_sends layout own.number own.start may.past.acts (Takes m)) < 2 ^ 64) (sym up.name_is) may.fits;
      }

  pub weighs : {E : Type 0} (act : Act) (r : Result ℕ E)
      → IfOk r (durable.Weighs layout n act) → IfOk r (Weighs port layout actor act)
  weighs act (Ok weight) is_weight = λ name past stands.
      let up : node.IsUp layout name past n = up_here name past stands in
      subst (λ (m : NodeName). weight ≡ weight_of_all (emits_by layout m past.acts act).out) up.name_is (is_weight past.acts up.stands)
  weighs act (Err e) is_weight = tt
