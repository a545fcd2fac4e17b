-- Reading the payloads of a node, one after another.
use Rattle.std.proofs.Common.{◌≡◌, ℕ, ◌+◌, ◌<◌, Bool, true, false, List, [], ◌∷◌, ◌++◌, length, map, take, drop, get_or, refl, sym, ap, ◌∙◌, arith}
use Rattle.std.proofs.lemmas.List.{map-append, take-append-drop, drop_more, take_more}
use Rattle.acc_journal.specs.Layout.{records}
use Rattle.acc_journal.proofs.Readings.{one_more_long}
use Rattle.acc_payloads.specs.declared.node.NodePayload.{NodePayload}
use Rattle.acc_payloads.specs.declared.node.NodeTold.{NodeTold}
use Rattle.acc_payloads.specs.Journals.{IsBadRecord}
use Rattle.acc_payloads.specs.Node.{node_bytes, FitsNode, NodeMay, node_may, IsNodeJournal, AreTold, IsReadAs}
use Rattle.acc_payloads.proofs.Journals.{each_snoc}
use Rattle.acc_payloads.proofs.NodeJournals.{same_node}

differ : {b : Bool} → b ≡ false → b ≡ true → ⊥
differ e f = cc

-- these payloads are read, and after them stands the next gate
pub record ReadSoFar (node version start : ℕ) (payloads : List (List ℕ)) (told : NodeTold) (gate : ℕ) : Type 0 where
  pub items : List NodePayload
  pub journal : IsNodeJournal version start payloads items
  pub tells : AreTold node start items told
  pub gate_is : gate ≡ 1 + length (records payloads)

pub read_none : (node version start : ℕ) (told : NodeTold) → AreTold node start [] told → ReadSoFar node version start [] told 1
read_none node version start told tells = record { items = []; journal = record { spelled = refl; each = tt }; tells = tells; gate_is = omega arith }

pub read_all : (node version start : ℕ) (payloads : List (List ℕ)) (told : NodeTold) (gate : ℕ) → ReadSoFar node version start payloads told gate → IsReadAs node version start payloads told
read_all node version start payloads told gate r = record { items = r.items; journal = r.journal; tells = r.tells }

module _ (node version start : ℕ) (payloads : List (List ℕ)) (i : ℕ) (told : NodeTold) (gate : ℕ) (payload : List ℕ)
    (so_far : ReadSoFar node version start (take i payloads) told gate) (lt : i < length payloads) (is : payload ≡ get_or payloads i payload) where
  more : take (i + 1) payloads ≡ take i payloads ++ payload ∷ []
  more = take_more payloads i payload lt ∙ ap (λ (p : List ℕ). take i payloads ++ p ∷ []) (sym is)

  whole : payloads ≡ take i payloads ++ payload ∷ drop (i + 1) payloads
  whole = sym (take-append-drop i payloads) ∙ ap (λ (l : List (List ℕ)). take i payloads ++ l) (drop_more payloads i payload lt ∙ ap (λ (p : List ℕ). p ∷ drop (i + 1) payloads) (sym is))

  pub read_more : (p : NodePayload) (after : NodeTold) (next : ℕ) → payload ≡ node_bytes p → FitsNode p → node_may version start so_far.items p ≡ true
      → AreTold node start (so_far.items ++ p ∷ []) after → next ≡ gate + (5 + length payload) → ReadSoFar node version start (take (i + 1) payloads) after next
  read_more p after next spelled fits may tells next_is = record {
    items = so_far.items ++ p ∷ [];
    journal = record {
      spelled = more ∙ ap (λ (l : List (List ℕ)). l ++ payload ∷ []) so_far.journal.spelled ∙ ap (λ (b : List ℕ). map node_bytes so_far.items ++ b ∷ []) spelled ∙ sym (map-append node_bytes so_far.items (p ∷ []));
      each = each_snoc (NodeMay version start) [] so_far.items p so_far.journal.each (fits, may);
    };
    tells = tells;
    gate_is = omega (arith, so_far.gate_is, next_is, one_more_long (take i payloads) (take (i + 1) payloads) payload more);
  }

  pub bad_record : ((p : NodePayload) → payload ≡ node_bytes p → NodeMay version start so_far.items p → ⊥) → IsBadRecord node_bytes (NodeMay version start) payloads gate
  bad_record bad = record {
    before = so_far.items;
    payload = payload;
    behind = drop (i + 1) payloads;
    whole = whole ∙ ap (λ (l : List (List ℕ)). l ++ payload ∷ drop (i + 1) payloads) so_far.journal.spelled;
    each = so_far.journal.each;
    bad = bad;
    at = so_far.gate_is ∙ ap (λ (l : List (List ℕ)). 1 + length (records l)) so_far.journal.spelled;
  }

  pub may_not : (p : NodePayload) → payload ≡ node_bytes p → FitsNode p → node_may version start so_far.items p ≡ false → IsBadRecord node_bytes (NodeMay version start) payloads gate
  may_not p spelled fits refused =
      bad_record (λ q q_spelled may.
      let same : p ≡ q = same_node p q fits may.0 (sym spelled ∙ q_spelled) in
      let yes : node_may version start so_far.items p ≡ true = ap (node_may version start so_far.items) same ∙ may.1 in
      differ refused yes)
