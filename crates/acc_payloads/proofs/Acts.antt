-- What the draws of a node tell of it, and that its next draw may stand after them.
use Rattle.std.proofs.Common.{◌≡◌, ℕ, ◌*◌, ◌^◌, ◌<◌, ◌≤◌, Bool, true, false, not, cond, ◌&&◌, max, eqb, ltb, leb, List, [], ◌∷◌, ◌++◌, Option, None, Some, is_some, refl, sym, ap, ◌∙◌, arith}
use Rattle.std.specs.List.{list_any}
use Rattle.std.proofs.lemmas.Bool.{lt-ltb, le-leb}
use Rattle.acc_base.specs.Faults.{or_else}
use Rattle.acc_stamp.specs.declared.stamps.TxnId.{TxnId}
use Rattle.acc_stamp.specs.Clock.{ClockState, next_stamp}
use Rattle.acc_stamp.specs.History.{ClockEvent, Draw as DrawEvent, See, Restart, clock_after}
use Rattle.acc_message.specs.declared.entry.Emitted.{Emitted}
use Rattle.acc_message.specs.NodeRules.{Act, Begins, Recovers, Slows, Takes, Restarts, Deed, clock_of, clock_events, begun_id, next_id}
use Rattle.acc_payloads.specs.declared.draw.Purpose.{Purpose}
use Rattle.acc_payloads.specs.declared.draw.Purpose.TheVariants.{Begin, Recover}
use Rattle.acc_payloads.specs.declared.draw.Draw.{Draw}
use Rattle.acc_payloads.specs.Node.{greatest_drawn, is_begin, begins, id_drawn_by, begun_by, may_draw}
use Rattle.acc_payloads.specs.Acts.{next_draw_of, DrawnAfter, AreDrawsOf, DrawsTell, MayDraw}
use Rattle.acc_payloads.proofs.Nodes.{greatest_more, begun_more, is_begun}

same_node_after : (number start : ℕ) (events : List ClockEvent) → (clock_after number start events).node ≡ number
same_node_after number start [] = refl
same_node_after number start (DrawEvent ∷ events) = same_node_after number start events
same_node_after number start (See h ∷ events) = same_node_after number start events
same_node_after number start (Restart ∷ events) = same_node_after number start events

abbrev number_of : ℕ → ℕ → List Deed → ℕ
number_of number start past = (clock_of number start past).node

-- the greatest of the draws with one more
topped : (start : ℕ) (clock : ClockState) (before draws : List Draw) (purpose : Purpose) (txn : ℕ) → clock.drawn ≡ greatest_drawn start before
    → draws ≡ before ++ next_draw_of clock purpose txn ∷ [] → (next_stamp clock).h ≡ greatest_drawn start draws
topped start clock before draws purpose txn e is =
    let m : greatest_drawn start draws ≡ max (greatest_drawn start before) (next_stamp clock).h = ap (greatest_drawn start) is ∙ greatest_more start before (next_draw_of clock purpose txn) in
    omega (arith, e, m)

or_none : {A : Type 0} (o : Option A) → or_else o None ≡ o
or_none None = refl
or_none (Some x) = refl

begun_with : (number start txn : ℕ) (past : List Deed) (t : ℕ) (before draws : List Draw) → begun_id number start txn past ≡ begun_by number txn before
    → draws ≡ before ++ next_draw_of (clock_of number start past) Begin t ∷ []
    → or_else (begun_id number start txn past) (cond (eqb t txn) (Some (next_id number start past)) None) ≡ begun_by number txn draws
begun_with number start txn past t before draws e is =
    let d : Draw = next_draw_of (clock_of number start past) Begin t in
    let id : next_id number start past ≡ id_drawn_by number d = ap (λ (n : ℕ). record { 0 = record { h = (next_stamp (clock_of number start past)).h; origin = n * 64 } }) (same_node_after number start (clock_events past)) in
    ap (λ (o : Option TxnId). or_else o (cond (eqb t txn) (Some (next_id number start past)) None)) e
    ∙ ap (λ (x : TxnId). or_else (begun_by number txn before) (cond (eqb t txn) (Some x) None)) id
    ∙ sym (ap (begun_by number txn) is ∙ begun_more number txn before d)

begun_without : (number start txn : ℕ) (past : List Deed) (t : ℕ) (before draws : List Draw) → begun_id number start txn past ≡ begun_by number txn before
    → draws ≡ before ++ next_draw_of (clock_of number start past) Recover t ∷ [] → or_else (begun_id number start txn past) None ≡ begun_by number txn draws
begun_without number start txn past t before draws e is =
    or_none (begun_id number start txn past) ∙ e ∙ sym (or_none (begun_by number txn before)) ∙ sym (ap (begun_by number txn) is ∙ begun_more number txn before (next_draw_of (clock_of number start past) Recover t))

tells_by : (number start : ℕ) (act : Act) (emitted : Emitted) (past : List Deed) (draws : List Draw) → ((before : List Draw) → AreDrawsOf number start past before → DrawsTell number start past before)
    → DrawnAfter (clock_of number start past) act (AreDrawsOf number start past) draws → DrawsTell number start (record { act = act; emitted = emitted } ∷ past) draws
tells_by number start (Begins t body) emitted past draws before d =
    let b = before d.0 d.1 in
    record { drawn = topped start (clock_of number start past) d.0 draws Begin t b.drawn d.2; begun = λ txn. begun_with number start txn past t d.0 draws (b.begun txn) d.2 }
tells_by number start (Recovers x body) emitted past draws before d =
    let b = before d.0 d.2 in
    record { drawn = topped start (clock_of number start past) d.0 draws Recover d.1 b.drawn d.3; begun = λ txn. begun_without number start txn past d.1 d.0 draws (b.begun txn) d.3 }
tells_by number start (Slows x) emitted past draws before d =
    let b = before draws d in record { drawn = b.drawn; begun = λ txn. or_none (begun_id number start txn past) ∙ b.begun txn }
tells_by number start (Takes m) emitted past draws before d =
    let b = before draws d in record { drawn = b.drawn; begun = λ txn. or_none (begun_id number start txn past) ∙ b.begun txn }
tells_by number start Restarts emitted past draws before d =
    let b = before draws d in record { drawn = b.drawn; begun = λ txn. or_none (begun_id number start txn past) ∙ b.begun txn }

pub draws_tell : (number start : ℕ) (past : List Deed) (draws : List Draw) → AreDrawsOf number start past draws → DrawsTell number start past draws
draws_tell number start [] draws e = record {
  drawn = ap (greatest_drawn start) (sym e);
  begun = λ txn. ap (begun_by number txn) (sym e);
}
draws_tell number start (deed ∷ past) draws d = tells_by number start deed.act deed.emitted past draws (draws_tell number start past) d

-- ---- the next draw

conjoined : (a b c : Bool) → a ≡ true → b ≡ true → c ≡ false → (a && b && not c) ≡ true
conjoined true true true e f g = sym g
conjoined true true false e f g = refl
conjoined true false c e f g = f
conjoined false b c e f g = e

not_again : (purpose : Purpose) (number txn : ℕ) (draws : List Draw) → (purpose ≡ Begin → begun_by number txn draws ≡ None) → (is_begin purpose && list_any (begins txn) draws) ≡ false
not_again Begin number txn draws none = sym (is_begun number txn draws) ∙ ap is_some (none refl)
not_again Recover number txn draws none = refl

pub next_may : (number start : ℕ) (past : List Deed) (draws : List Draw) (purpose : Purpose) (txn : ℕ) → AreDrawsOf number start past draws → MayDraw number start past
    → (purpose ≡ Begin → begun_id number start txn past ≡ None) → may_draw start draws (next_draw_of (clock_of number start past) purpose txn) ≡ true
next_may number start past draws purpose txn are low fresh =
    let t : DrawsTell number start past draws = draws_tell number start past draws are in
    let above : greatest_drawn start draws < (next_stamp (clock_of number start past)).h = omega (arith, t.drawn) in
    let most : (next_stamp (clock_of number start past)).h ≤ 2 ^ 62 = omega (arith, low.drawn, low.seen) in
    conjoined (ltb (greatest_drawn start draws) (next_stamp (clock_of number start past)).h) (leb (next_stamp (clock_of number start past)).h (2 ^ 62))
    (is_begin purpose && list_any (begins txn) draws)
    (lt-ltb _ _ above) (le-leb _ _ most) (not_again purpose number txn draws (λ e. sym (t.begun txn) ∙ fresh e))
