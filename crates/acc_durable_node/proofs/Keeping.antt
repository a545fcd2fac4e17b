-- What a durable node stands for after a step that draws nothing, and with another call armed.
use Rattle.std.proofs.Common.{◌≡◌, ℕ, List, ◌∷◌, Result, Ok, Err, sym, subst, ◌∙◌}
use Rattle.std.specs.Prelude.{IfOk}
use Rattle.acc_topology.specs.Layout.{Layout}
use Rattle.acc_message.specs.declared.message.Message.{Message}
use Rattle.acc_message.specs.declared.entry.Emitted.{Emitted}
use Rattle.acc_message.specs.NodeRules.{Act, Slows, Takes as TakesMessage}
use Rattle.acc_node.specs.declared.node.Node.{Node}
use Rattle.acc_node.specs.Stands as node
use Rattle.acc_journal.specs.Journal.{JournalState}
use Rattle.acc_payloads.specs.Acts.{AreDrawsOf}
use Rattle.acc_payloads.specs.Node.{IsNodeJournal}
use Rattle.acc_durable_node.specs.declared.node.DurableNode.{DurableNode}
use Rattle.acc_durable_node.specs.Names.{deeds_by}
use Rattle.acc_durable_node.specs.Node.{with_parts, StandsFor, OfActs, TakesOn, HasSlowed}

module _ {D : Type 0} (layout : Layout) (old : DurableNode D) (node_now : Node) where
  abbrev now : DurableNode D
  now = with_parts old node_now old.journal old.marked old.kept

  -- a node that draws nothing keeps its journal
  undrawn : (act : Act) (acts : List Act) (stands : StandsFor layout old acts) → AreDrawsOf old.name.number old.name.start (deeds_by layout old.name (act ∷ acts)) stands.draws
      → node.StandsFor layout old.name.number old.name.start node_now (act ∷ acts) → StandsFor layout now (act ∷ acts)
  undrawn act acts stands drawn node_stands = record {
    sound = stands.sound;
    stands = node_stands;
    draws = stands.draws;
    drawn = drawn;
    held = record { items = stands.held.items; journal = stands.held.journal; draws_are = stands.held.draws_are; marked = stands.held.marked; kept = stands.held.kept };
  }

  pub message_ok : {E : Type 0} (m : Message) (r : Result Emitted E)
      → IfOk r (λ emitted. (number start : ℕ) (acts : List Act) → node.StandsFor layout number start old.node acts → node.Takes layout number start node_now acts (TakesMessage m) emitted)
      → IfOk r (TakesOn layout old now (TakesMessage m))
  message_ok m (Ok emitted) ran = λ acts stands.
      let takes = ran old.name.number old.name.start acts stands.stands in
      record { emits = takes.emits; stands = undrawn (TakesMessage m) acts stands stands.drawn takes.stands }
  message_ok m (Err e) ran = tt

  pub slow_ok : {E : Type 0} (txn : ℕ) (r : Result Emitted E)
      → IfOk r (λ emitted. (number start : ℕ) (acts : List Act) → node.StandsFor layout number start old.node acts → node.SlowsBegun layout number start node_now acts txn emitted)
      → IfOk r (λ emitted. OfActs layout old (λ acts. HasSlowed layout old now acts txn emitted))
  slow_ok txn (Ok emitted) ran = λ acts stands.
      let slowed = ran old.name.number old.name.start acts stands.stands in
      record {
        id = slowed.id;
        begun = slowed.begun;
        waits = slowed.waits;
        majority = slowed.majority;
        takes = record { emits = slowed.takes.emits; stands = undrawn (Slows slowed.id) acts stands stands.drawn slowed.takes.stands };
      }
  slow_ok txn (Err e) ran = tt

-- the journal has the same payloads, and is broken or not as before
pub armed_stands : {D : Type 0} (layout : Layout) (old : DurableNode D) (journal_now : JournalState D) (acts : List Act) → journal_now.payloads ≡ old.journal.payloads → journal_now.broken ≡ old.journal.broken
    → StandsFor layout old acts → StandsFor layout (with_parts old old.node journal_now old.marked old.kept) acts
armed_stands layout old journal_now acts payloads broken stands = record {
  sound = broken ∙ stands.sound;
  stands = stands.stands;
  draws = stands.draws;
  drawn = stands.drawn;
  held = record {
    items = stands.held.items;
    journal = subst (λ (l : List (List ℕ)). IsNodeJournal old.name.version old.name.start l stands.held.items) (sym payloads) stands.held.journal;
    draws_are = stands.held.draws_are;
    marked = stands.held.marked;
    kept = stands.held.kept;
  };
}
