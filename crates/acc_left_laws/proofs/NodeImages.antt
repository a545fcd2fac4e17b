-- What a node left reads as its draws, each of which may stand there.
use Rattle.std.proofs.Common.{◌≡◌, ℕ, List, [], map, refl, sym, ap, ◌∙◌}
use Rattle.acc_message.specs.Run.{clock_start}
use Rattle.acc_payloads.specs.declared.draw.Draw.{Draw}
use Rattle.acc_payloads.specs.declared.node.NodePayload.{NodePayload}
use Rattle.acc_payloads.specs.declared.node.NodePayload.TheVariants.{Mark, Draws}
use Rattle.acc_payloads.specs.Items.{without_marks, AreMarked, MayBeMarked}
use Rattle.acc_payloads.specs.Journals.{may_mark, EachMay, IsJournalOf}
use Rattle.acc_payloads.specs.Node.{draws_in, node_bytes, IsNodeJournal, NodeMay}
use Rattle.acc_payloads.specs.Spelling.{draw_bytes, mark_bytes}
use Rattle.acc_payloads.proofs.Journals.{each_alike}
use Rattle.acc_payloads.proofs.Nodes.{draws_marked, draws_more}
use Rattle.acc_schedule.specs.Content.{Content}
use Rattle.acc_left.specs.Rules.{NodeMayLeave}
use Rattle.acc_left_laws.proofs.Interleaved.{interleaved, Interleaved}
use Rattle.acc_left_laws.proofs.MarkFacts.{node_marks}
use Rattle.acc_left_laws.proofs.NodeDraws.{NextDraw}

module _ (plan : Content) (node : ℕ) where
  mark_may : (before : List NodePayload) → MayBeMarked plan.version (map node_bytes before) mark_bytes → NodeMayLeave plan node before Mark
  mark_may before marked = ((tt, ap (may_mark plan.version) (sym (node_marks before)) ∙ marked.marks refl), refl)

  draw_may : (before : List NodePayload) (d : Draw) → NextDraw plan node (draws_in before) d → MayBeMarked plan.version (map node_bytes before) (draw_bytes d)
      → NodeMayLeave plan node before (Draws d)
  draw_may before d next marked = ((next.fits, next.may), next.of_plan)

  -- the payloads of these draws, with their marks
  pub record HasDraws (payloads : List (List ℕ)) (draws : List Draw) : Type 0 where
    pub items : List NodePayload
    pub journal : IsJournalOf node_bytes (NodeMayLeave plan node) payloads items
    pub draws_are : draws_in items ≡ draws

  pub has_draws : (payloads : List (List ℕ)) (draws : List Draw) → AreMarked plan.version payloads → without_marks payloads ≡ map draw_bytes draws
      → EachMay (NextDraw plan node) [] draws → HasDraws payloads draws
  has_draws payloads draws marked are each =
      let k : Interleaved node_bytes draws_in (NodeMayLeave plan node) [] payloads draws =
      interleaved Mark Draws node_bytes draws_in plan.version refl draws_marked draws_more (NodeMayLeave plan node) (NextDraw plan node) mark_may draw_may payloads draws marked are each in
      record { items = k.items; journal = record { spelled = k.spelled; each = k.each }; draws_are = k.contents_are }

  -- they are the journal of a node
  pub is_node_journal : (payloads : List (List ℕ)) (items : List NodePayload) → IsJournalOf node_bytes (NodeMayLeave plan node) payloads items
      → IsNodeJournal plan.version (clock_start plan.starts node) payloads items
  is_node_journal payloads items journal = record {
    spelled = journal.spelled;
    each = each_alike (NodeMayLeave plan node) (NodeMay plan.version (clock_start plan.starts node)) (λ before p may. may.0) [] items journal.each;
  }
