-- What a scan sees after the turns.
use Rattle.std.proofs.Common.{◌≡◌, Bool, true, false, not, ◌&&◌, ◌||◌, List, [], ◌∷◌, Option, None, Some, cond, is_some, sym, refl, ap, ◌∙◌}
use Rattle.std.proofs.lemmas.Bool.{true≢false}
use Rattle.acc_stamp.specs.declared.stamps.Stamp.{Stamp}
use Rattle.acc_stamp.specs.declared.stamps.TxnId.{TxnId}
use Rattle.acc_stamp.specs.Stamp.{stamp_eq, stamp_lt, id_eq}
use Rattle.acc_stamp.proofs.Order.{stamp_eq-Decides, id_order}
use Rattle.acc_deps.specs.declared.records.Settled.{Settled}
use Rattle.acc_actor_laws.specs.OpeningOrder.{applies_in}
use Rattle.acc_message.specs.Opening.{is_past}
use Rattle.acc_record.specs.declared.record.Record.{Record}
use Rattle.acc_opening.specs.Plan.{Lookup, settled_in, is_applied_in, is_past_behind}
use Rattle.acc_opening.specs.declared.turns.Turn.{Turn}
use Rattle.acc_opening.specs.Lookup.{is_over_in}
use Rattle.acc_opening.specs.Turns.{changes_in, has_key, is_applied_at, HasItsTime, HaveTheirTimes}

some_is : {X : Type 0} (x y : X) → Some x ≡ Some y → x ≡ y
some_is x y e = cc

keyed : (b c a : Bool) → (c ≡ true → b ≡ true) → (c && a) ≡ ((b && c) && a)
keyed b false true h = sym (keyed_none b)
  where
    keyed_none : (b : Bool) → ((b && false) && true) ≡ false
    keyed_none true = refl
    keyed_none false = refl
keyed true true a h = refl
keyed false true a h = absurd (true≢false (sym (h refl)))
keyed true false false h = refl
keyed false false false h = refl

same_time : (at : Lookup) (turn : Turn) (y : TxnId) (s : Settled) → settled_in (at y) ≡ Some s → HasItsTime at turn → id_eq turn.id y ≡ true
    → stamp_eq turn.t s.t ≡ true
same_time at turn y s is h same =
    let e : turn.id ≡ y = (id_order.decides turn.id y).0 same in
    let settled : h.settled ≡ s = some_is h.settled s (sym h.stable ∙ ap (λ x. settled_in (at x)) e ∙ is) in
    (stamp_eq-Decides turn.t s.t).1 (h.t ∙ ap (λ z. z.t) settled)

-- a turn is found by its transaction, or by its timestamp too
pub applied_by : (at : Lookup) (turns : List Turn) (y : TxnId) (s : Settled) → settled_in (at y) ≡ Some s → HaveTheirTimes at turns
    → applies_in y (changes_in turns) ≡ is_applied_at turns s.t y
applied_by at [] y s is h = refl
applied_by at (turn ∷ turns) y s is h =
    ap (λ b. b || applies_in y (changes_in turns)) (keyed (stamp_eq turn.t s.t) (id_eq turn.id y) turn.applies (same_time at turn y s is h.0))
    ∙ ap (λ b. (has_key s.t y turn && turn.applies) || b) (applied_by at turns y s is h.1)

-- what holds back, by the record
pub past_value : (at : Lookup) (turns : List Turn) (t : Stamp) (y : TxnId) (r : Record) (s : Settled) → at y ≡ Some r → r.stable ≡ Some s
    → HaveTheirTimes at turns
    → is_past_behind at (changes_in turns) t y ≡ (not (stamp_lt s.t t) || (r.applied || is_applied_at turns s.t y))
past_value at turns t y r s there stable h =
    let is : settled_in (at y) ≡ Some s = ap settled_in there ∙ stable in
    ap (λ o. is_past t (is_applied_in (at y) || applies_in y (changes_in turns)) o) is
    ∙ ap (λ o. not (stamp_lt s.t t) || (is_applied_in o || applies_in y (changes_in turns))) there
    ∙ ap (λ b. not (stamp_lt s.t t) || (r.applied || b)) (applied_by at turns y s is h)

or_true : (b : Bool) → (b || true) ≡ true
or_true true = refl
or_true false = refl

over_value : (t : Stamp) (s : Option Settled) (applied more : Bool) → (is_some s && applied) ≡ true → is_past t (applied || more) s ≡ true
over_value t None a more e = absurd cc
over_value t (Some s) false more e = absurd cc
over_value t (Some s) true more e = or_true (not (stamp_lt s.t t))

-- what is stable and applied holds nothing back
pub past_over : (same : Bool) (own : Record) (kept : Option Record) (t : Stamp) (more : Bool) → (not same && is_over_in kept) ≡ true
    → is_past t (is_applied_in (cond same (Some own) kept) || more) (settled_in (cond same (Some own) kept)) ≡ true
past_over true own kept t more e = absurd cc
past_over false own None t more e = absurd cc
past_over false own (Some r) t more e = over_value t r.stable r.applied more e
