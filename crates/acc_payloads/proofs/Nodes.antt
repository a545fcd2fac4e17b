-- The payloads of a node, one more at a time.
use Rattle.std.proofs.Common.{◌≡◌, ℕ, ◌<◌, ◌^◌, ltb, leb, Bool, true, false, not, cond, ◌&&◌, ◌||◌, max, eqb, List, [], ◌∷◌, ◌++◌, Option, None, Some, is_some, refl, sym, ap, subst, ◌∙◌, arith}
use Rattle.std.specs.List.{list_any}
use Rattle.std.specs.Ordering.{nat_cmp}
use Rattle.std.specs.BTreeMap.{get}
use Rattle.std.proofs.lemmas.Bool.{eqb-true, ltb-true}
use Rattle.std.proofs.lemmas.List.Folds.{list_any-append}
use Rattle.acc_base.specs.Faults.{or_else}
use Rattle.acc_stamp.specs.declared.stamps.TxnId.{TxnId}
use Rattle.acc_payloads.specs.declared.draw.Draw.{Draw}
use Rattle.acc_payloads.specs.declared.node.NodePayload.{NodePayload}
use Rattle.acc_payloads.specs.declared.node.NodePayload.TheVariants.{Mark, Draws}
use Rattle.acc_payloads.specs.declared.node.NodeTold.{NodeTold}
use Rattle.acc_payloads.specs.Node.{draws_in, greatest_drawn, is_begin, begins, id_drawn_by, begun_by, is_mark, has_mark, node_may, may_draw, AreTold}

pub draws_more : (items : List NodePayload) (d : Draw) → draws_in (items ++ Draws d ∷ []) ≡ draws_in items ++ d ∷ []
draws_more [] d = refl
draws_more (Mark ∷ items) d = draws_more items d
draws_more (Draws c ∷ items) d = ap (λ (l : List Draw). c ∷ l) (draws_more items d)

pub draws_marked : (items : List NodePayload) → draws_in (items ++ Mark ∷ []) ≡ draws_in items
draws_marked [] = refl
draws_marked (Mark ∷ items) = draws_marked items
draws_marked (Draws c ∷ items) = ap (λ (l : List Draw). c ∷ l) (draws_marked items)

pub greatest_more : (start : ℕ) (draws : List Draw) (d : Draw) → greatest_drawn start (draws ++ d ∷ []) ≡ max (greatest_drawn start draws) d.h
greatest_more start [] d = refl
greatest_more start (c ∷ draws) d = greatest_more (max start c.h) draws d

or_nothing : {A : Type 0} (o : Option A) → or_else o None ≡ o
or_nothing None = refl
or_nothing (Some x) = refl

or_three : {A : Type 0} (a b c : Option A) → or_else a (or_else b c) ≡ or_else (or_else a b) c
or_three None b c = refl
or_three (Some x) b c = refl

pub begun_more : (node txn : ℕ) (draws : List Draw) (d : Draw) → begun_by node txn (draws ++ d ∷ []) ≡ or_else (begun_by node txn draws) (cond (begins txn d) (Some (id_drawn_by node d)) None)
begun_more node txn [] d = or_nothing (cond (begins txn d) (Some (id_drawn_by node d)) None)
begun_more node txn (c ∷ draws) d =
    ap (λ (o : Option TxnId). or_else (cond (begins txn c) (Some (id_drawn_by node c)) None) o) (begun_more node txn draws d)
    ∙ or_three (cond (begins txn c) (Some (id_drawn_by node c)) None) (begun_by node txn draws) (cond (begins txn d) (Some (id_drawn_by node d)) None)

some_either : {A : Type 0} (b : Bool) (x : A) (o : Option A) → is_some (or_else (cond b (Some x) None) o) ≡ (b || is_some o)
some_either true x o = refl
some_either false x o = refl

pub is_begun : (node txn : ℕ) (draws : List Draw) → is_some (begun_by node txn draws) ≡ list_any (begins txn) draws
is_begun node txn [] = refl
is_begun node txn (d ∷ draws) = some_either (begins txn d) (id_drawn_by node d) (begun_by node txn draws) ∙ ap (λ (b : Bool). begins txn d || b) (is_begun node txn draws)

-- ---- what is told, after one payload more

or_true : (b : Bool) → (b || true) ≡ true
or_true true = refl
or_true false = refl

or_false : (b : Bool) → (b || false) ≡ b
or_false true = refl
or_false false = refl

pub told_mark : (node start : ℕ) (items : List NodePayload) (old new : NodeTold) → new.marked ≡ true → new.drawn ≡ old.drawn → new.begun ≡ old.begun
    → AreTold node start items old → AreTold node start (items ++ Mark ∷ []) new
told_mark node start items old new marked drawn begun told = record {
  marked = marked ∙ sym (list_any-append is_mark items (Mark ∷ []) ∙ or_true (has_mark items));
  drawn = drawn ∙ told.drawn ∙ ap (greatest_drawn start) (sym (draws_marked items));
  begun = λ txn. ap (λ m. get nat_cmp m txn) begun ∙ told.begun txn ∙ ap (begun_by node txn) (sym (draws_marked items));
}

and_first : (a b : Bool) → (a && b) ≡ true → a ≡ true
and_first true b e = refl
and_first false b e = e

and_second : (a b : Bool) → (a && b) ≡ true → b ≡ true
and_second true b e = e
and_second false b e = absurd cc

not_true : (b : Bool) → not b ≡ true → b ≡ false
not_true true e = sym e
not_true false e = refl

not_begun : (a b : Bool) → (a && b) ≡ false → a ≡ true → b ≡ false
not_begun true b e f = e
not_begun false b e f = absurd cc

nothing : {A : Type 0} (o : Option A) → is_some o ≡ false → o ≡ None
nothing None e = refl
nothing (Some x) e = absurd cc

-- a number that one draw begins is begun by no other
swapped : (b : Bool) (x : TxnId) (o : Option TxnId) → (b ≡ true → o ≡ None) → cond b (Some x) o ≡ or_else o (cond b (Some x) None)
swapped true x o fresh = ap (λ (p : Option TxnId). or_else p (Some x)) (sym (fresh refl))
swapped false x o fresh = sym (or_nothing o)

pub told_draw : (node version start : ℕ) (items : List NodePayload) (d : Draw) (old new : NodeTold) → new.marked ≡ old.marked → new.drawn ≡ d.h
    → ((txn : ℕ) → get nat_cmp new.begun txn ≡ cond (begins txn d) (Some (id_drawn_by node d)) (get nat_cmp old.begun txn))
    → AreTold node start items old → node_may version start items (Draws d) ≡ true → AreTold node start (items ++ Draws d ∷ []) new
told_draw node version start items d old new marked drawn begun told may =
    let above = and_first (ltb (greatest_drawn start (draws_in items)) d.h && leb d.h (2 ^ 62)) (not (is_begin d.purpose && list_any (begins d.txn) (draws_in items))) may in
    let lt : greatest_drawn start (draws_in items) < d.h = ltb-true _ _ (and_first (ltb (greatest_drawn start (draws_in items)) d.h) (leb d.h (2 ^ 62)) above) in
    let once : (is_begin d.purpose && list_any (begins d.txn) (draws_in items)) ≡ false =
    not_true _ (and_second (ltb (greatest_drawn start (draws_in items)) d.h && leb d.h (2 ^ 62)) (not (is_begin d.purpose && list_any (begins d.txn) (draws_in items))) may) in
    let greatest : d.h ≡ max (greatest_drawn start (draws_in items)) d.h = omega (arith, lt) in
    let fresh : (txn : ℕ) → begins txn d ≡ true → begun_by node txn (draws_in items) ≡ None =
    λ txn e.
    let same : d.txn ≡ txn = eqb-true _ _ (and_second (is_begin d.purpose) (eqb d.txn txn) e) in
    let none : list_any (begins d.txn) (draws_in items) ≡ false = not_begun (is_begin d.purpose) _ once (and_first (is_begin d.purpose) (eqb d.txn txn) e) in
    nothing (begun_by node txn (draws_in items)) (is_begun node txn (draws_in items) ∙ ap (λ (n : ℕ). list_any (begins n) (draws_in items)) (sym same) ∙ none) in
    record {
      marked = marked ∙ told.marked ∙ sym (list_any-append is_mark items (Draws d ∷ []) ∙ or_false (has_mark items));
      drawn = drawn ∙ greatest ∙ sym (ap (greatest_drawn start) (draws_more items d) ∙ greatest_more start (draws_in items) d);
      begun = λ txn.
          begun txn ∙ ap (λ (o : Option TxnId). cond (begins txn d) (Some (id_drawn_by node d)) o) (told.begun txn)
          ∙ swapped (begins txn d) (id_drawn_by node d) (begun_by node txn (draws_in items)) (fresh txn)
          ∙ sym (ap (begun_by node txn) (draws_more items d) ∙ begun_more node txn (draws_in items) d);
    }

-- ---- the same of a payload that is read

pub told_marked : (node version start : ℕ) (items : List NodePayload) (p : NodePayload) (old new : NodeTold) → p ≡ Mark → new.marked ≡ true → new.drawn ≡ old.drawn → new.begun ≡ old.begun
    → AreTold node start items old → node_may version start items p ≡ true → AreTold node start (items ++ p ∷ []) new
told_marked node version start items p old new is marked drawn begun told may =
    subst (λ (q : NodePayload). AreTold node start (items ++ q ∷ []) new) (sym is) (told_mark node start items old new marked drawn begun told)

pub told_drawn : (node version start : ℕ) (items : List NodePayload) (p : NodePayload) (d : Draw) (old new : NodeTold) → p ≡ Draws d → new.marked ≡ old.marked → new.drawn ≡ d.h
    → ((txn : ℕ) → get nat_cmp new.begun txn ≡ cond (begins txn d) (Some (id_drawn_by node d)) (get nat_cmp old.begun txn))
    → AreTold node start items old → node_may version start items p ≡ true → AreTold node start (items ++ p ∷ []) new
told_drawn node version start items p d old new is marked drawn begun told may =
    subst (λ (q : NodePayload). AreTold node start (items ++ q ∷ []) new) (sym is)
    (told_draw node version start items d old new marked drawn begun told (ap (node_may version start items) (sym is) ∙ may))

pub draw_may : (node start : ℕ) (items : List NodePayload) (told : NodeTold) (d : Draw) (again : Bool) → AreTold node start items told → (ltb told.drawn d.h && leb d.h (2 ^ 62)) ≡ true
    → again ≡ (is_begin d.purpose && list_any (begins d.txn) (draws_in items)) → not again ≡ may_draw start (draws_in items) d
draw_may node start items told d again tells range is =
    let b : Bool = is_begin d.purpose && list_any (begins d.txn) (draws_in items) in
    let e : (ltb (greatest_drawn start (draws_in items)) d.h && leb d.h (2 ^ 62)) ≡ true = ap (λ (n : ℕ). ltb n d.h && leb d.h (2 ^ 62)) (sym tells.drawn) ∙ range in
    ap not is ∙ sym (ap (λ (a : Bool). a && not b) e)
