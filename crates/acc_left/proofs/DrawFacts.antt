-- The draws of a node in a table, one more after those that stand there.
use Rattle.std.proofs.Common.{◌≡◌, ℕ, ◌≤◌, ◌<◌, max, Bool, true, false, cond, List, [], ◌∷◌, ◌++◌, Option, None, Some, refl, sym, ap, ◌∙◌, arith}
use Rattle.std.specs.List.{find}
use Rattle.std.specs.Option.{option_or}
use Rattle.std.proofs.lemmas.Bool.{and_parts, eqb-true}
use Rattle.std.proofs.lemmas.List.Folds.{find-append}
use Rattle.acc_base.specs.Faults.{or_else}
use Rattle.acc_stamp.specs.declared.stamps.Stamp.{Stamp}
use Rattle.acc_stamp.specs.Stamp.{stamp_eq}
use Rattle.acc_payloads.specs.declared.draw.Draw.{Draw}
use Rattle.acc_payloads.specs.declared.node.NodePayload.{NodePayload}
use Rattle.acc_payloads.specs.declared.node.NodePayload.TheVariants.{Mark, Draws as DrawsPayload}
use Rattle.acc_payloads.specs.Node.{draws_in, greatest_drawn}
use Rattle.acc_payloads.proofs.Nodes.{draws_more, draws_marked}
use Rattle.acc_left.specs.Told.{AddsDraws, Draws, draw_at, stamp_drawn}

abbrev is_of : ℕ → Stamp → Draw → Bool
is_of node stamp d = stamp_eq (stamp_drawn node d) stamp

height_is : (node : ℕ) (stamp : Stamp) (d : Draw) → is_of node stamp d ≡ true → d.h ≡ stamp.h
height_is node stamp d e = eqb-true d.h stamp.h (and_parts _ _ e).0

pub at_least : (start : ℕ) (draws : List Draw) → start ≤ greatest_drawn start draws
at_least start [] = omega arith
at_least start (d ∷ draws) = let more = at_least (max start d.h) draws in omega (arith, more)

-- what is found among draws is no higher than the greatest
found_low : (node start : ℕ) (stamp : Stamp) (draws : List Draw) (c : Draw) → find (is_of node stamp) draws ≡ Some c → stamp.h ≤ greatest_drawn start draws
found_low node start stamp [] c found = absurd cc
found_low node start stamp (d ∷ draws) c found = by (is_of node stamp d) refl (found_low node (max start d.h) stamp draws c) found
  where
    by : (b : Bool) → is_of node stamp d ≡ b → (find (is_of node stamp) draws ≡ Some c → stamp.h ≤ greatest_drawn (max start d.h) draws)
        → cond b (Some d) (find (is_of node stamp) draws) ≡ Some c → stamp.h ≤ greatest_drawn (max start d.h) draws
    by true is later h = let more = at_least (max start d.h) draws in let same = height_is node stamp d is in omega (arith, more, same)
    by false is later h = later h

-- so a higher draw has a stamp that isn't among them
one_place : (o p rest : Option Draw) → ((c d : Draw) → o ≡ Some c → p ≡ Some d → ⊥) → or_else p (or_else o rest) ≡ or_else (option_or o p) rest
one_place None p rest apart = refl
one_place (Some c) None rest apart = refl
one_place (Some c) (Some d) rest apart = absurd (apart c d refl refl)

found_alone : (node : ℕ) (stamp : Stamp) (d c : Draw) → find (is_of node stamp) (d ∷ []) ≡ Some c → stamp.h ≡ d.h
found_alone node stamp d c found = by (is_of node stamp d) refl found
  where
    by : (b : Bool) → is_of node stamp d ≡ b → cond b (Some d) None ≡ Some c → stamp.h ≡ d.h
    by true is h = sym (height_is node stamp d is)
    by false is h = absurd cc

pub adds_none : (draws : Draws) (node : ℕ) → AddsDraws draws draws node []
adds_none draws node stamp = refl

pub adds_mark : (before now after : Draws) (node : ℕ) (items : List NodePayload) → AddsDraws before now node items → AddsDraws now after node (Mark ∷ [])
    → AddsDraws before after node (items ++ Mark ∷ [])
adds_mark before now after node items adds more stamp =
    more stamp ∙ adds stamp ∙ ap (λ (l : List Draw). or_else (find (is_of node stamp) l) (draw_at before stamp)) (sym (draws_marked items))

pub adds_draw : (before now after : Draws) (node start : ℕ) (items : List NodePayload) (d : Draw) → greatest_drawn start (draws_in items) < d.h
    → AddsDraws before now node items → AddsDraws now after node (DrawsPayload d ∷ []) → AddsDraws before after node (items ++ DrawsPayload d ∷ [])
adds_draw before now after node start items d above adds more stamp =
    more stamp ∙ ap (λ (o : Option Draw). or_else (find (is_of node stamp) (d ∷ [])) o) (adds stamp)
    ∙ one_place (find (is_of node stamp) (draws_in items)) (find (is_of node stamp) (d ∷ [])) (draw_at before stamp)
    (λ c e low high.
    let no_higher = found_low node start stamp (draws_in items) c low in
    let same = found_alone node stamp d e high in
    omega (arith, above, no_higher, same))
    ∙ ap (λ (o : Option Draw). or_else o (draw_at before stamp))
    (sym (ap (find (is_of node stamp)) (draws_more items d) ∙ find-append (is_of node stamp) (draws_in items) (d ∷ [])))
