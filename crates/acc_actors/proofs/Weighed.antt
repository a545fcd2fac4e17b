-- What an actor in its slot would send is what its entry would send.
use Rattle.std.proofs.Common.{◌≡◌, ℕ, false, Result, Ok, Err, IfOk, sym, ◌∙◌, ap, subst}
use Rattle.acc_stamp.specs.declared.actors.Actor.{Actor}
use Rattle.acc_stamp.specs.Actor.{node_of}
use Rattle.acc_topology.specs.Layout.{Layout}
use Rattle.acc_ports.specs.declared.disk.Disk.{Ghosts}
use Rattle.acc_message.specs.declared.message.Message.{Message}
use Rattle.acc_message.specs.declared.entry.Emitted.{Emitted}
use Rattle.acc_message.specs.declared.entry.Event.{Event}
use Rattle.acc_message.specs.declared.entry.Event.TheVariants.{Message as MessageEvent}
use Rattle.acc_message.specs.NodeRules.{Act, Takes}
use Rattle.acc_message.specs.Run.{emits}
use Rattle.acc_message_code.specs.Weight.{weight_of_all, weight_of}
use Rattle.acc_run_laws.specs.Next.{MayDo}
use Rattle.acc_run_laws.specs.Sends.{AreSendable}
use Rattle.acc_run_laws.proofs.Sendable.{node_meets}
use Rattle.acc_run_laws.specs.Asks.{emits_if}
use Rattle.acc_durable_node.specs.Actor as node
use Rattle.acc_durable_node.specs.Weighing.{Weighs, NodeMayWeigh}
use Rattle.acc_durable_node.specs.declared.actor.NodeActor.{NodeActor}
use Rattle.acc_schedule.specs.Content.{Content}
use Rattle.acc_pasts.proofs.Replayed.{node_emits_next}
use Rattle.acc_pasts.proofs.Sound.{sound_standing}
use Rattle.acc_schedule_runs.specs.Situations.{Situation, whole}
use Rattle.acc_schedule_runs.specs.Moves.{event_in, entry_of}
use Rattle.acc_schedule_runs.specs.Schedules.{cluster_of}
use Rattle.acc_actors.specs.declared.slot.Slot.{Slot}
use Rattle.acc_actors.specs.declared.slot.Slot.TheVariants.{Node}
use Rattle.acc_actors.specs.Pasts.{node_past}
use Rattle.acc_actors.specs.Slots.{node_name}
use Rattle.acc_actors.specs.Asked.{step_by, IsAsked, MayAsk}
use Rattle.acc_actors.proofs.Few.{less_than, few_whole}

module _ {D : Type 0} (port : Ghosts D) (plan : Content) (a : Actor) (slot : Slot D) (layout : Layout) (layout_is : layout ≡ plan.topology) where
  -- what is asked of the actor may be done after all that was entered
  may_do : (s : Situation) (event : Event) (act : Act) (x : Slot D) → IsAsked port plan s (step_by a event act) x → MayDo (cluster_of plan) (whole s) a act
  may_do s event act x asked = record { event = event_in s event; act_is = asked.may.act_is; place = asked.may.place }

  -- what the rules give is what the entry has
  is_entry : (s : Situation) (event : Event) (act : Act) (x : Slot D) (emitted : Emitted) → IsAsked port plan s (step_by a event act) x → emits (cluster_of plan) (whole s) a act ≡ emitted
      → weight_of_all emitted.out ≡ weight_of (entry_of (cluster_of plan) s a event false)
  is_entry s event act x emitted asked is =
      ap (λ (e : Emitted). weight_of_all e.out) (sym is ∙ ap (emits_if (cluster_of plan) (whole s) a) (sym asked.may.act_is))

  -- ---- a node

  module _ (n : NodeActor D) (is : slot ≡ Node n) where
    there : (s : Situation) (event : Event) (act : Act) → IsAsked port plan s (step_by a event act) slot → IsAsked port plan s (step_by a event act) (Node n)
    there s event act asked = subst (λ (x : Slot D). IsAsked port plan s (step_by a event act) x) is asked

    pub node_may_weigh : (number : ℕ) (m : Message) → MayAsk port plan (step_by a (MessageEvent number) (Takes m)) slot → NodeMayWeigh port layout n m
    node_may_weigh number m may =
        let s : Situation = may.0 in
        let asked : IsAsked port plan s (step_by a (MessageEvent number) (Takes m)) (Node n) = there s (MessageEvent number) (Takes m) may.1 in
        let sends : AreSendable (node.emits_next plan.topology (node_name plan (node_of a)) (node_past (cluster_of plan) s a) (Takes m)).out =
        (node_meets (cluster_of plan) (whole s) a (sound_standing (cluster_of plan) s asked.sound) (few_whole s asked.few) asked.stands.kind).sends
        asked.sound.few_bodies (Takes m) (may_do s (MessageEvent number) (Takes m) (Node n) asked) in
        subst (λ (l : Layout). NodeMayWeigh port l n m) (sym layout_is) (record {
          name = node_name plan (node_of a);
          past = node_past (cluster_of plan) s a;
          stands = asked.stands.stands;
          short = sends.short;
          fits = less_than _ sends.weight;
        })

    pub node_weighs : {E : Type 0} (event : Event) (act : Act) (r : Result ℕ E)
        → IfOk r (Weighs port layout n act)
        → IfOk r (λ weight. (s : Situation) → IsAsked port plan s (step_by a event act) slot → weight ≡ weight_of (entry_of (cluster_of plan) s a event false))
    node_weighs event act (Err e) is_weight = tt
    node_weighs event act (Ok weight) is_weight = λ s asked.
        let here : IsAsked port plan s (step_by a event act) (Node n) = there s event act asked in
        subst (λ (l : Layout). Weighs port l n act weight) layout_is is_weight (node_name plan (node_of a)) (node_past (cluster_of plan) s a) here.stands.stands
        ∙ is_entry s event act (Node n) (node.emits_next plan.topology (node_name plan (node_of a)) (node_past (cluster_of plan) s a) act) here
        (node_emits_next (cluster_of plan) (whole s) a act (sound_standing (cluster_of plan) s here.sound) here.stands.kind)
