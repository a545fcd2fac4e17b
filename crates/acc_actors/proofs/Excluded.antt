-- What no call asks: an empty slot for anything, a store for what nodes do.
use Rattle.std.proofs.Common.{◌≡◌, ◌⊎◌, ℕ, List, [], true, inl, inr, sym, ◌∙◌, ap, subst}
use Rattle.std.proofs.lemmas.Bool.{true≢false}
use Rattle.acc_stamp.specs.declared.actors.Actor.{Actor}
use Rattle.acc_stamp.specs.declared.stamps.TxnId.{TxnId}
use Rattle.acc_stamp.specs.Actor.{actor_of}
use Rattle.acc_txn.specs.declared.parts.BodyParts.{BodyParts}
use Rattle.acc_ports.specs.declared.disk.Disk.{Ghosts}
use Rattle.acc_message.specs.declared.entry.Event.{Event}
use Rattle.acc_message.specs.declared.entry.Event.TheVariants.{Begin as BeginEvent, Recover as RecoverEvent}
use Rattle.acc_message.specs.NodeRules.{Act, Begins, Recovers}
use Rattle.acc_message.specs.Run.{is_node}
use Rattle.acc_safety.proofs.DrawFacts.{is_node-node}
use Rattle.acc_durable_store.specs.declared.actor.StoreActor.{StoreActor}
use Rattle.acc_schedule.specs.Content.{Content}
use Rattle.acc_schedule_runs.specs.Situations.{Situation}
use Rattle.acc_actors.specs.declared.slot.Slot.{Slot}
use Rattle.acc_actors.specs.declared.slot.Slot.TheVariants.{Empty, Store}
use Rattle.acc_actors.specs.Slots.{SlotStages}
use Rattle.acc_actors.specs.Asked.{ActorStep, step_by, IsAsked, IsStaged, MayAsk, MayAskBehind}

module _ {D : Type 0} (port : Ghosts D) (plan : Content) (slot : Slot D) where
  pub not_empty : slot ≡ Empty → (step : ActorStep) → MayAsk port plan step slot → ⊥
  not_empty is step may = subst (SlotStages port plan may.0 step.actor []) is may.1.stands

  pub not_empty_behind : slot ≡ Empty → (step : ActorStep) → MayAskBehind port plan step slot → ⊥
  not_empty_behind is step may = subst (SlotStages port plan may.0 step.actor may.1) is may.2.behind.stands

  pub not_empty_staged : slot ≡ Empty → (a : Actor) → (s : Situation) × (staged : List Event) × IsStaged port plan s a staged slot → ⊥
  not_empty_staged is a may = subst (SlotStages port plan may.0 a may.1) is may.2.stands

  -- the actor of a store is no node
  no_store : (t : StoreActor D) → slot ≡ Store t → (a : Actor) (event : Event) (act : Act) (s : Situation) → IsAsked port plan s (step_by a event act) slot
      → is_node a ≡ true → ⊥
  no_store t is a event act s asked kind = true≢false (sym kind ∙ (subst (SlotStages port plan s a []) is asked.stands).kind)

  is_node_at : (a : Actor) (node : ℕ) → a ≡ actor_of node 0 → is_node a ≡ true
  is_node_at a node at = ap is_node at ∙ is_node-node node

  no_store_begins : (t : StoreActor D) → slot ≡ Store t → (a : Actor) (txn : ℕ) (body : BodyParts) → MayAsk port plan (step_by a (BeginEvent txn) (Begins txn body)) slot → ⊥
  no_store_begins t is a txn body may =
      let home = may.1.may.place.0 in
      no_store t is a (BeginEvent txn) (Begins txn body) may.0 may.1 (is_node_at a home.0 home.2)

  no_store_recovers : (t : StoreActor D) → slot ≡ Store t → (a : Actor) (txn : ℕ) (id : TxnId) (body : BodyParts)
      → MayAsk port plan (step_by a (RecoverEvent txn) (Recovers id body)) slot → ⊥
  no_store_recovers t is a txn id body may =
      let node = may.1.may.place.0 in
      no_store t is a (RecoverEvent txn) (Recovers id body) may.0 may.1 (is_node_at a node.0 node.2)

  pub none_begins : (slot ≡ Empty) ⊎ ((t : StoreActor D) × (slot ≡ Store t)) → (a : Actor) (txn : ℕ) (body : BodyParts)
      → MayAsk port plan (step_by a (BeginEvent txn) (Begins txn body)) slot → ⊥
  none_begins (inl is) a txn body may = not_empty is (step_by a (BeginEvent txn) (Begins txn body)) may
  none_begins (inr found) a txn body may = no_store_begins found.0 found.1 a txn body may

  pub none_recovers : (slot ≡ Empty) ⊎ ((t : StoreActor D) × (slot ≡ Store t)) → (a : Actor) (txn : ℕ) (id : TxnId) (body : BodyParts)
      → MayAsk port plan (step_by a (RecoverEvent txn) (Recovers id body)) slot → ⊥
  none_recovers (inl is) a txn id body may = not_empty is (step_by a (RecoverEvent txn) (Recovers id body)) may
  none_recovers (inr found) a txn id body may = no_store_recovers found.0 found.1 a txn id body may
