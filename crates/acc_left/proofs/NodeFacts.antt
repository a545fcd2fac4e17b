-- What is kept of a node's payloads while its journal is tested.
use Rattle.std.proofs.Common.{◌≡◌, ℕ, ◌^◌, max, Bool, true, false, cond, not, ◌&&◌, ◌||◌, List, [], ◌∷◌, ◌++◌, refl, sym, ap, subst, ◌∙◌, arith}
use Rattle.std.specs.Prelude.{◌≤◌, ◌==◌, nat_lt, nat_le, slice_get}
use Rattle.std.specs.List.{list_any}
use Rattle.std.specs.BTreeSet.{BTreeSet, Updates, contains}
use Rattle.std.specs.Ordering.{is_eq, nat_cmp}
use Rattle.std.proofs.lemmas.Bool.Decides.{nat_tests}
use Rattle.std.proofs.lemmas.Bool.{true≢false, and_parts, le-leb, leb-true}
use Rattle.std.proofs.lemmas.List.Folds.{list_any-append}
use Rattle.acc_payloads.specs.declared.draw.Draw.{Draw}
use Rattle.acc_payloads.specs.declared.node.NodePayload.{NodePayload}
use Rattle.acc_payloads.specs.declared.node.NodePayload.TheVariants.{Mark, Draws}
use Rattle.acc_payloads.specs.Node.{FitsNode, NodeMay, begins, draws_in, greatest_drawn, has_mark, is_begin, is_mark}
use Rattle.acc_payloads.proofs.Nodes.{draws_more, draws_marked, greatest_more}
use Rattle.acc_schedule.specs.Content.{Content}
use Rattle.acc_left.specs.declared.nodes.Told.{Told}
use Rattle.acc_left.specs.Nodes.{follows, TellNode}
use Rattle.acc_left.specs.Rules.{greatest_height, is_draw_of, is_of_plan, may_be_drawn}

-- a draw of the plan isn't above 2^62 either
is_below : (plan : Content) (node : ℕ) (d : Draw) → is_draw_of plan node d ≡ true → nat_le d.h (2 ^ 62) ≡ true
is_below plan node d of_plan =
    let low : nat_le d.h greatest_height ≡ true = (and_parts (may_be_drawn node d.purpose (slice_get plan.homes d.txn)) (nat_le d.h greatest_height) of_plan).1 in
    let lower : d.h ≤ greatest_height = leb-true d.h greatest_height low in
    le-leb d.h (2 ^ 62) (omega (arith, lower))

with_least : (above below again of_plan : Bool) → (of_plan ≡ true → below ≡ true) → ((above && not again) && of_plan) ≡ ((above && below && not again) && of_plan)
with_least true true true true least = refl
with_least true true true false least = refl
with_least true true false true least = refl
with_least true true false false least = refl
with_least true false again true least = absurd (true≢false (sym (least refl)))
with_least true false true false least = refl
with_least true false false false least = refl
with_least false below again of_plan least = refl

-- tests of a draw in another order
pub follows_draw : (plan : Content) (start node : ℕ) (before : List NodePayload) (d : Draw)
    → ((nat_lt (greatest_drawn start (draws_in before)) d.h && not (is_begin d.purpose && list_any (begins d.txn) (draws_in before))) && is_draw_of plan node d)
    ≡ follows plan start node before (Draws d)
follows_draw plan start node before d =
    with_least (nat_lt (greatest_drawn start (draws_in before)) d.h) (nat_le d.h (2 ^ 62)) (is_begin d.purpose && list_any (begins d.txn) (draws_in before)) (is_draw_of plan node d)
    (is_below plan node d)

pub may_leave : (plan : Content) (node start : ℕ) (before : List NodePayload) (p : NodePayload) → FitsNode p → follows plan start node before p ≡ true
    → NodeMay plan.version start before p × (is_of_plan plan node p ≡ true)
may_leave plan node start before p fits allowed = let parts = and_parts _ _ allowed in ((fits, parts.0), parts.1)

-- ---- what payloads tell, after one more

or_true : (b : Bool) → (b || true) ≡ true
or_true true = refl
or_true false = refl

or_false : (b : Bool) → (b || false) ≡ b
or_false true = refl
or_false false = refl

or_turned : (a b : Bool) → (a || b) ≡ (b || (a || false))
or_turned true true = refl
or_turned true false = refl
or_turned false true = refl
or_turned false false = refl

pub tell_none : (start : ℕ) (told : Told) → told.marked ≡ false → told.greatest ≡ start → ((txn : ℕ) → contains nat_cmp told.begun txn ≡ false) → TellNode start [] told
tell_none start told marked greatest begun = record { marked = marked; greatest = greatest; begun = begun }

pub tell_mark : (start : ℕ) (items : List NodePayload) (old new : Told) → TellNode start items old → new.marked ≡ true → new.greatest ≡ old.greatest → new.begun ≡ old.begun
    → TellNode start (items ++ Mark ∷ []) new
tell_mark start items old new tells marked greatest begun = record {
  marked = marked ∙ sym (list_any-append is_mark items (Mark ∷ []) ∙ or_true (has_mark items));
  greatest = greatest ∙ tells.greatest ∙ ap (greatest_drawn start) (sym (draws_marked items));
  begun = λ txn. ap (λ b. contains nat_cmp b txn) begun ∙ tells.begun txn ∙ ap (list_any (begins txn)) (sym (draws_marked items));
}

pub tell_draw : (start : ℕ) (items : List NodePayload) (d : Draw) (old new : Told) → TellNode start items old → new.marked ≡ old.marked → new.greatest ≡ max old.greatest d.h
    → ((txn : ℕ) → contains nat_cmp new.begun txn ≡ (begins txn d || contains nat_cmp old.begun txn)) → TellNode start (items ++ Draws d ∷ []) new
tell_draw start items d old new tells marked greatest begun = record {
  marked = marked ∙ tells.marked ∙ sym (list_any-append is_mark items (Draws d ∷ []) ∙ or_false (has_mark items));
  greatest =
      greatest ∙ ap (λ g. max g d.h) tells.greatest ∙ sym (ap (greatest_drawn start) (draws_more items d) ∙ greatest_more start (draws_in items) d);
  begun = λ txn.
      begun txn ∙ ap (λ b. begins txn d || b) (tells.begun txn) ∙ or_turned (begins txn d) (list_any (begins txn) (draws_in items))
      ∙ sym (ap (list_any (begins txn)) (draws_more items d) ∙ list_any-append (begins txn) (draws_in items) (d ∷ []));
}

pub tell_marked : (start : ℕ) (items : List NodePayload) (p : NodePayload) (old new : Told) → p ≡ Mark → TellNode start items old → new.marked ≡ true → new.greatest ≡ old.greatest
    → new.begun ≡ old.begun → TellNode start (items ++ p ∷ []) new
tell_marked start items p old new is tells marked greatest begun =
    subst (λ (q : NodePayload). TellNode start (items ++ q ∷ []) new) (sym is) (tell_mark start items old new tells marked greatest begun)

pub tell_drawn : (start : ℕ) (items : List NodePayload) (p : NodePayload) (d : Draw) (old new : Told) → p ≡ Draws d → TellNode start items old → new.marked ≡ old.marked
    → new.greatest ≡ max old.greatest d.h → ((txn : ℕ) → contains nat_cmp new.begun txn ≡ (begins txn d || contains nat_cmp old.begun txn)) → TellNode start (items ++ p ∷ []) new
tell_drawn start items p d old new is tells marked greatest begun =
    subst (λ (q : NodePayload). TellNode start (items ++ q ∷ []) new) (sym is) (tell_draw start items d old new tells marked greatest begun)

cond_or : (b c : Bool) → cond b true c ≡ (b || c)
cond_or true c = refl
cond_or false c = refl

equal_numbers : (m n : ℕ) → is_eq (nat_cmp m n) ≡ (m == n)
equal_numbers m n = grind (arith, nat_tests)

-- a begin enters its transaction
pub begun_more : (d : Draw) (old new : BTreeSet ℕ) → is_begin d.purpose ≡ true → Updates nat_cmp old new d.txn true → (txn : ℕ)
    → contains nat_cmp new txn ≡ (begins txn d || contains nat_cmp old txn)
begun_more d old new begin updates txn =
    updates.0 txn ∙ cond_or (is_eq (nat_cmp d.txn txn)) (contains nat_cmp old txn)
    ∙ ap (λ (b : Bool). b || contains nat_cmp old txn) (equal_numbers d.txn txn ∙ sym (ap (λ (b : Bool). b && d.txn == txn) begin))

-- and a recover enters none
pub begun_same : (d : Draw) (old : BTreeSet ℕ) → is_begin d.purpose ≡ false → (txn : ℕ) → contains nat_cmp old txn ≡ (begins txn d || contains nat_cmp old txn)
begun_same d old recover txn = sym (ap (λ (b : Bool). (b && d.txn == txn) || contains nat_cmp old txn) recover)
