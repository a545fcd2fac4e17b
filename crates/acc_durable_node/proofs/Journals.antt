-- What the payloads of a journal tell: they are payloads of one list alone, and a node that is opened from them has restarted.
use Rattle.std.proofs.Common.{◌≡◌, ℕ, List, [], ◌∷◌, ◌++◌, map, sym, ap, subst, refl, ◌∙◌}
use Rattle.acc_topology.specs.Layout.{Layout}
use Rattle.acc_message.specs.NodeRules.{Act, Restarts}
use Rattle.acc_journal.specs.Layout.{Reads}
use Rattle.acc_journal.proofs.Unique.{one_list}
use Rattle.acc_payloads.specs.declared.node.NodePayload.{NodePayload}
use Rattle.acc_payloads.specs.Acts.{AreDrawsOf}
use Rattle.acc_payloads.specs.Journals.{EachMay}
use Rattle.acc_payloads.specs.Node.{node_bytes, NodeMay, IsNodeJournal, draws_in}
use Rattle.acc_payloads.proofs.NodeJournals.{same_node, read_higher}
use Rattle.acc_durable_node.specs.declared.name.NodeName.{NodeName}
use Rattle.acc_durable_node.specs.Names.{deeds_by}
use Rattle.acc_durable_node.specs.declared.node.DurableNode.{DurableNode}
use Rattle.acc_durable_node.specs.Node.{StandsFor, IsJournalAfter, IsReopened}

same_each : (version start : ℕ) (front xs ys : List NodePayload) → map node_bytes xs ≡ map node_bytes ys → EachMay (NodeMay version start) front xs → EachMay (NodeMay version start) front ys → xs ≡ ys
same_each version start front [] [] e f g = refl
same_each version start front [] (y ∷ ys) e f g = absurd cc
same_each version start front (x ∷ xs) [] e f g = absurd cc
same_each version start front (x ∷ xs) (y ∷ ys) e f g =
    let heads : node_bytes x ≡ node_bytes y = cc in
    let tails : map node_bytes xs ≡ map node_bytes ys = cc in
    let one : x ≡ y = same_node x y f.0.0 g.0.0 heads in
    let rest : EachMay (NodeMay version start) (front ++ y ∷ []) xs = subst (λ (z : NodePayload). EachMay (NodeMay version start) (front ++ z ∷ []) xs) one f.1 in
    ap (λ (z : NodePayload). z ∷ xs) one ∙ ap (λ (zs : List NodePayload). y ∷ zs) (same_each version start (front ++ y ∷ []) xs ys tails rest g.1)

same_items : (version start : ℕ) (payloads : List (List ℕ)) (xs ys : List NodePayload) → IsNodeJournal version start payloads xs → IsNodeJournal version start payloads ys → xs ≡ ys
same_items version start payloads xs ys x y = same_each version start [] xs ys (sym x.spelled ∙ y.spelled) x.each y.each

-- whatever acts have the draws of the payloads, the node stands for these and a restart
pub reopened_stands : {D : Type 0} (layout : Layout) (n : DurableNode D) (acts : List Act) → IsReopened n → IsJournalAfter layout n.name n.journal.payloads acts → StandsFor layout n (Restarts ∷ acts)
reopened_stands layout n acts r j =
    let same : j.items ≡ r.held.items = same_items n.name.version n.name.start n.journal.payloads j.items r.held.items j.journal r.held.journal in
    let drawn : AreDrawsOf n.name.number n.name.start (deeds_by layout n.name acts) r.draws =
    subst (AreDrawsOf n.name.number n.name.start (deeds_by layout n.name acts)) (ap draws_in same ∙ r.held.draws_are) j.drawn in
    record { sound = r.sound; stands = r.restarted layout acts drawn; draws = r.draws; drawn = drawn; held = r.held }

-- the same, where a disk reads as the payloads
pub reopened_from : {D : Type 0} (layout : Layout) (n : DurableNode D) (content : List ℕ) (acts : List Act) (payloads : List (List ℕ)) → IsReopened n → Reads content n.journal.payloads
    → Reads content payloads → IsJournalAfter layout n.name payloads acts → StandsFor layout n (Restarts ∷ acts)
reopened_from layout n content acts payloads r reads given j =
    reopened_stands layout n acts r (subst (λ (l : List (List ℕ)). IsJournalAfter layout n.name l acts) (one_list content payloads n.journal.payloads given reads) j)

-- ---- laws

pub stands_tells : {D : Type 0} (layout : Layout) (n : DurableNode D) (acts : List Act) → StandsFor layout n acts → IsJournalAfter layout n.name n.journal.payloads acts
stands_tells layout n acts s = record {
  items = s.held.items;
  journal = s.held.journal;
  drawn = subst (AreDrawsOf n.name.number n.name.start (deeds_by layout n.name acts)) (sym s.held.draws_are) s.drawn;
}

pub told_higher : (layout : Layout) (name : NodeName) (payloads : List (List ℕ)) (acts : List Act) → IsJournalAfter layout (record name { version = 1 }) payloads acts
    → IsJournalAfter layout (record name { version = 2 }) payloads acts
told_higher layout name payloads acts j = record { items = j.items; journal = read_higher name.start payloads j.items j.journal; drawn = j.drawn }

pub told_on : (layout : Layout) (name : NodeName) (payloads : List (List ℕ)) (acts : List Act) → IsJournalAfter layout name payloads acts → IsJournalAfter layout name payloads (Restarts ∷ acts)
told_on layout name payloads acts j = record { items = j.items; journal = j.journal; drawn = j.drawn }
