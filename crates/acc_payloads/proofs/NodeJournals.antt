-- Journals of nodes.
use Rattle.std.proofs.Common.{◌≡◌, ℕ, Bool, true, false, cond, ◌&&◌, ◌||◌, eqb, List, [], ◌∷◌, ◌++◌, append_assoc, refl, sym, ap, ◌∙◌, arith, map}
use Rattle.std.proofs.lemmas.List.{map-append}
use Rattle.std.proofs.lemmas.List.Folds.{list_any-append}
use Rattle.acc_payloads.specs.declared.draw.Purpose.{Purpose}
use Rattle.acc_payloads.specs.declared.draw.Purpose.TheVariants.{Begin, Recover}
use Rattle.acc_payloads.specs.declared.draw.Draw.{Draw}
use Rattle.acc_payloads.specs.declared.node.NodePayload.{NodePayload}
use Rattle.acc_payloads.specs.declared.node.NodePayload.TheVariants.{Mark, Draws}
use Rattle.acc_payloads.specs.Spelling.{mark_bytes, purpose_number, draw_bytes, FitsDraw}
use Rattle.acc_payloads.specs.Journals.{IsBadRecord, may_mark}
use Rattle.acc_payloads.specs.Node.{node_bytes, FitsNode, NodeMay, IsNodeJournal, is_mark, has_mark, draws_in, may_draw, GrowsBy}
use Rattle.acc_payloads.proofs.Draws.{same_draw}
use Rattle.acc_payloads.proofs.Journals.{each_snoc, each_alike, never}
use Rattle.acc_payloads.proofs.Nodes.{draws_more, draws_marked}

number_is : (p : Purpose) → 255 ≡ purpose_number p → ⊥
number_is Begin e = omega (arith, e)
number_is Recover e = omega (arith, e)

no_mark : (d : Draw) → mark_bytes ≡ draw_bytes d → ⊥
unfolding draw_bytes
no_mark d e = number_is d.purpose cc

-- two payloads have different spellings
pub same_node : (x y : NodePayload) → FitsNode x → FitsNode y → node_bytes x ≡ node_bytes y → x ≡ y
same_node Mark Mark f g e = refl
same_node Mark (Draws d) f g e = absurd (no_mark d e)
same_node (Draws d) Mark f g e = absurd (no_mark d (sym e))
same_node (Draws d) (Draws h) f g e = ap Draws (same_draw d h f g e)

same_payload : (version start : ℕ) (b c : List NodePayload) (x y : NodePayload) → NodeMay version start b x → NodeMay version start c y → node_bytes x ≡ node_bytes y → x ≡ y
same_payload version start b c x y f g e = same_node x y f.0 g.0 e

pub never_bad : (version start : ℕ) (payloads : List (List ℕ)) (items : List NodePayload) → IsNodeJournal version start payloads items
    → (place : ℕ) → IsBadRecord node_bytes (NodeMay version start) payloads place → ⊥
never_bad version start payloads items journal place bad = never (NodeMay version start) node_bytes (same_payload version start) payloads items journal place bad

-- ---- growth

two : (items : List NodePayload) (p q : NodePayload) → (items ++ p ∷ []) ++ q ∷ [] ≡ items ++ p ∷ q ∷ []
two items p q = append_assoc items (p ∷ []) (q ∷ [])

or_true : (b : Bool) → (b || true) ≡ true
or_true true = refl
or_true false = refl

or_false : (b : Bool) → (b || false) ≡ b
or_false true = refl
or_false false = refl

and_left : (a b : Bool) → (a && b) ≡ true → a ≡ true
and_left true b e = refl
and_left false b e = e

and_true : (a : Bool) → (a && true) ≡ a
and_true true = refl
and_true false = refl

-- a mark is due in version 2 alone, where there is none
pub due : (version : ℕ) (marked : Bool) → may_mark version marked ≡ true → true ≡ (marked || eqb version 2)
due version true e = refl
due version false e = sym (and_left (eqb version 2) true e)

pub not_due : (version : ℕ) (marked : Bool) → may_mark version marked ≡ false → marked ≡ (marked || eqb version 2)
not_due version true e = refl
not_due version false e = sym e ∙ and_true (eqb version 2)

module _ (version start : ℕ) (payloads : List (List ℕ)) (items : List NodePayload) (d : Draw) (journal : IsNodeJournal version start payloads items)
    (fits : FitsDraw d) (may : may_draw start (draws_in items) d ≡ true) where
  abbrev marked_items : List NodePayload
  marked_items = items ++ Mark ∷ []

  unmarked : may_mark version (has_mark items) ≡ false → GrowsBy version start payloads items d
  unmarked e = record {
    later = items ++ Draws d ∷ [];
    journal = record {
      spelled = ap (λ (b : Bool). payloads ++ cond b (mark_bytes ∷ draw_bytes d ∷ []) (draw_bytes d ∷ [])) e ∙ ap (λ (l : List (List ℕ)). l ++ draw_bytes d ∷ []) journal.spelled ∙ sym (map-append node_bytes items (Draws d ∷ []));
      each = each_snoc (NodeMay version start) [] items (Draws d) journal.each (fits, may);
    };
    draws = draws_more items d;
    marked = list_any-append is_mark items (Draws d ∷ []) ∙ or_false (has_mark items) ∙ not_due version (has_mark items) e;
  }

  marked : may_mark version (has_mark items) ≡ true → GrowsBy version start payloads items d
  marked e =
      let may_now : may_draw start (draws_in marked_items) d ≡ true = ap (λ (l : List Draw). may_draw start l d) (draws_marked items) ∙ may in
      record {
        later = marked_items ++ Draws d ∷ [];
        journal = record {
          spelled = ap (λ (b : Bool). payloads ++ cond b (mark_bytes ∷ draw_bytes d ∷ []) (draw_bytes d ∷ [])) e ∙ ap (λ (l : List (List ℕ)). l ++ mark_bytes ∷ draw_bytes d ∷ []) journal.spelled
              ∙ sym (map-append node_bytes items (Mark ∷ Draws d ∷ [])) ∙ ap (map node_bytes) (sym (two items Mark (Draws d)));
          each = each_snoc (NodeMay version start) [] marked_items (Draws d) (each_snoc (NodeMay version start) [] items Mark journal.each (tt, e)) (fits, may_now);
        };
        draws = draws_more marked_items d ∙ ap (λ (l : List Draw). l ++ d ∷ []) (draws_marked items);
        marked = list_any-append is_mark marked_items (Draws d ∷ []) ∙ or_false (has_mark marked_items) ∙ list_any-append is_mark items (Mark ∷ [])
            ∙ or_true (has_mark items) ∙ due version (has_mark items) e;
      }

  either : (b : Bool) → may_mark version (has_mark items) ≡ b → GrowsBy version start payloads items d
  either true e = marked e
  either false e = unmarked e

  pub grows : GrowsBy version start payloads items d
  grows = either (may_mark version (has_mark items)) refl

-- ---- versions

higher : (start : ℕ) (before : List NodePayload) (p : NodePayload) → NodeMay 1 start before p → NodeMay 2 start before p
higher start before Mark may = absurd cc
higher start before (Draws d) may = may

pub read_higher : (start : ℕ) (payloads : List (List ℕ)) (items : List NodePayload) → IsNodeJournal 1 start payloads items → IsNodeJournal 2 start payloads items
read_higher start payloads items journal = record { spelled = journal.spelled; each = each_alike (NodeMay 1 start) (NodeMay 2 start) (higher start) [] items journal.each }
