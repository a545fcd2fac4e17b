-- The journal of a node, payload after payload.
use Rattle.std.proofs.Common.{◌≡◌, ℕ, ◌+◌, ◌<◌, Bool, true, false, ◌&&◌, List, [], ◌∷◌, ◌++◌, length, take, sym, ap, ◌∙◌}
use Rattle.std.proofs.lemmas.Bool.{true≢false, and_parts, ltb-true}
use Rattle.acc_message.specs.Run.{clock_start}
use Rattle.acc_payloads.specs.declared.draw.Draw.{Draw}
use Rattle.acc_payloads.specs.declared.node.NodePayload.{NodePayload}
use Rattle.acc_payloads.specs.declared.node.NodePayload.TheVariants.{Mark, Draws as DrawsPayload}
use Rattle.acc_payloads.specs.Journals.{IsBadRecord}
use Rattle.acc_payloads.specs.Node.{FitsNode, draws_in, greatest_drawn, node_bytes, node_may}
use Rattle.acc_payloads.proofs.NodeJournals.{same_node}
use Rattle.acc_schedule.specs.Content.{Content}
use Rattle.acc_left.specs.declared.nodes.Told.{Told}
use Rattle.acc_left.specs.Nodes.{follows, TellNode}
use Rattle.acc_left.specs.Rules.{NodeMayLeave, is_of_plan}
use Rattle.acc_left.specs.Told.{AddsDraws, Draws, IsEntered}
use Rattle.acc_left.proofs.DrawFacts.{adds_draw, adds_mark, adds_none}
use Rattle.acc_left.proofs.NodeFacts.{may_leave}
use Rattle.acc_left.proofs.PayloadFacts.{IsNext, IsReadTo, bad_record, may_not, read_more, read_none}

abbrev start_at : Content → ℕ → ℕ
start_at plan node = clock_start plan.starts node

-- these payloads of the node are read, and their draws are in the table
pub record NodeIsRead (plan : Content) (node : ℕ) (payloads : List (List ℕ)) (told : Told) (before now : Draws) (gate : ℕ) : Type 0 where
  pub items : List NodePayload
  pub read : IsReadTo node_bytes (NodeMayLeave plan node) payloads items gate
  pub tells : TellNode (start_at plan node) items told
  pub draws : AddsDraws before now node items

pub node_none : (plan : Content) (node : ℕ) (told : Told) (draws : Draws) → TellNode (start_at plan node) [] told → NodeIsRead plan node [] told draws draws 1
node_none plan node told draws tells = record {
  items = [];
  read = read_none node_bytes (NodeMayLeave plan node);
  tells = tells;
  draws = adds_none draws node;
}

-- a draw that may follow is above those before it
above : (plan : Content) (node start : ℕ) (items : List NodePayload) (d : Draw) → follows plan start node items (DrawsPayload d) ≡ true → greatest_drawn start (draws_in items) < d.h
above plan node start items d allowed =
    let may = (and_parts _ _ allowed).0 in
    let range = (and_parts _ _ may).0 in
    ltb-true (greatest_drawn start (draws_in items)) d.h (and_parts _ _ range).0

adds_more : (plan : Content) (node start : ℕ) (before now after : Draws) (items : List NodePayload) (p : NodePayload) → follows plan start node items p ≡ true
    → AddsDraws before now node items → AddsDraws now after node (p ∷ []) → AddsDraws before after node (items ++ p ∷ [])
adds_more plan node start before now after items Mark allowed adds more = adds_mark before now after node items adds more
adds_more plan node start before now after items (DrawsPayload d) allowed adds more =
    adds_draw before now after node start items d (above plan node start items d allowed) adds more

refused : (plan : Content) (node start : ℕ) (items : List NodePayload) (p : NodePayload) → follows plan start node items p ≡ false → (node_may plan.version start items p ≡ true) → (is_of_plan plan node p ≡ true) → ⊥
refused plan node start items p differs may of_plan =
    true≢false (sym (ap (λ (b : Bool). b && is_of_plan plan node p) may ∙ of_plan) ∙ differs)

module _ (plan : Content) (node : ℕ) (payloads : List (List ℕ)) (i : ℕ) (told : Told) (before now : Draws) (gate : ℕ) (payload : List ℕ)
    (so_far : NodeIsRead plan node (take i payloads) told before now gate) (is_next : IsNext payloads i payload) where
  pub node_more : (p : NodePayload) (after : Told) (later : Draws) (next : ℕ) → payload ≡ node_bytes p → FitsNode p
      → follows plan (start_at plan node) node so_far.items p ≡ true → TellNode (start_at plan node) (so_far.items ++ p ∷ []) after
      → AddsDraws now later node (p ∷ []) → next ≡ gate + (5 + length payload) → NodeIsRead plan node (take (i + 1) payloads) after before later next
  node_more p after later next spelled fits allowed tells adds next_is = record {
    items = so_far.items ++ p ∷ [];
    read =
        read_more node_bytes (NodeMayLeave plan node) payloads i so_far.items gate payload so_far.read is_next p next spelled
        (may_leave plan node (start_at plan node) so_far.items p fits allowed) next_is;
    tells = tells;
    draws = adds_more plan node (start_at plan node) before now later so_far.items p allowed so_far.draws adds;
  }

  pub node_unread : ((p : NodePayload) → FitsNode p → payload ≡ node_bytes p → ⊥) → IsBadRecord node_bytes (NodeMayLeave plan node) payloads gate
  node_unread none =
      bad_record node_bytes (NodeMayLeave plan node) payloads i so_far.items gate payload so_far.read is_next (λ p spelled may. none p may.0.0 spelled)

  pub node_may_not : (p : NodePayload) → payload ≡ node_bytes p → FitsNode p → follows plan (start_at plan node) node so_far.items p ≡ false
      → IsBadRecord node_bytes (NodeMayLeave plan node) payloads gate
  node_may_not p spelled fits differs =
      may_not node_bytes (NodeMayLeave plan node) payloads i so_far.items gate payload so_far.read is_next p
      (λ q q_spelled may. same_node p q fits may.0.0 (sym spelled ∙ q_spelled))
      (λ may. refused plan node (start_at plan node) so_far.items p differs may.0.1 may.1)

pub node_all : (plan : Content) (node : ℕ) (payloads : List (List ℕ)) (told : Told) (before now : Draws) (gate : ℕ) → NodeIsRead plan node payloads told before now gate
    → IsEntered plan node payloads before now
node_all plan node payloads told before now gate read = record { items = read.items; journal = read.read.journal; draws = read.draws }
