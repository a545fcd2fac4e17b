-- The queue in its order.
use Rattle.std.proofs.Common.{◌≡◌, ◌⊎◌, inl, inr, ℕ, List, [], ◌∷◌, ◌<◌, length, suc, zero, get_or, take, drop, insert, refl, sym, ap, ◌∙◌, subst, arith}
use Rattle.std.specs.List.{Contains}
use Rattle.std.proofs.lemmas.Bool.{true≢false}
use Rattle.std.proofs.lemmas.List.{take-append-drop}
use Rattle.acc_stamp.specs.Rising.{IsRisingBy, IsPlaceOf, IsGapFor}
use Rattle.acc_opening.specs.declared.turns.Turn.{Turn}
use Rattle.acc_opening.specs.Turns.{key_of, key_lt, turn_lt, HasTurn}
use Rattle.acc_opening.proofs.TurnFacts.{key_lt-irrefl, Contains-first, Contains-later, between}

-- ---- one is put in its place

pub has_new : (turn : Turn) (turns : List Turn) (place : ℕ) → IsRisingBy turn_lt turns → IsGapFor key_lt key_of turns (key_of turn) place
    → HasTurn turn turns (insert turns place turn)
has_new turn turns place r gap =
    let is = take-append-drop place turns in
    subst (λ list. HasTurn turn list (insert turns place turn)) is
    (between turn (take place turns) (drop place turns) (subst (IsRisingBy turn_lt) (sym is) r) gap.below gap.above)

-- ---- one of the same transaction stands there

pub has_kept : (turn : Turn) (turns : List Turn) (place : ℕ) → IsRisingBy turn_lt turns → IsPlaceOf key_of turns (key_of turn) place
    → HasTurn turn turns turns
has_kept turn turns place r there = record {
  rises = r;
  only = λ a c. inl c;
  kept = λ a c. c;
  there = (get_or turns place turn, (place, there.in_range, same turns place turn there.in_range), there.at turn);
}
  where
    same : (turns : List Turn) (place : ℕ) (d : Turn) → place < length turns → get_or turns place (get_or turns place d) ≡ get_or turns place d
    same [] place d h = absurd (omega arith)
    same (x ∷ xs) zero d h = refl
    same (x ∷ xs) (suc place) d h = same xs place d (omega arith)

-- ---- it stands alone

is_it : (turn a : Turn) → Contains [] a ⊎ (a ≡ turn) → a ≡ turn
is_it turn a (inl c) = absurd (omega (arith, c.1))
is_it turn a (inr e) = e

pub alone : (turn : Turn) (list : List Turn) → HasTurn turn [] list → list ≡ turn ∷ []
alone turn [] h = absurd (omega (arith, h.there.1.1))
alone turn (a ∷ []) h = ap (λ z. z ∷ []) (is_it turn a (h.only a (Contains-first a [])))
alone turn (a ∷ b ∷ rest) h =
    let p : a ≡ turn = is_it turn a (h.only a (Contains-first a (b ∷ rest))) in
    let q : b ≡ turn = is_it turn b (h.only b (Contains-later a (b ∷ rest) b (Contains-first b rest))) in
    absurd (true≢false (sym h.rises.0.0 ∙ ap (λ z. turn_lt z b) (p ∙ sym q) ∙ key_lt-irrefl (key_of b)))
