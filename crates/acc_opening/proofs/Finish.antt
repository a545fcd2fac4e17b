-- A plan with no turn to come is the plan of the step.
use Rattle.std.proofs.Common.{◌≡◌, ℕ, inl, inr, ⊎_elim, Bool, true, false, not, ◌&&◌, ◌||◌, List, [], ◌∷◌, ◌++◌, Option, None, Some, is_some, sym, refl, ap, ◌∙◌, subst, arith, append_assoc}
use Rattle.std.specs.List.{AllByRecursion, Contains, list_any}
use Rattle.std.specs.Option.{option_map}
use Rattle.std.specs.Ordering.{is_lt, ordering_then}
use Rattle.std.proofs.lemmas.Bool.{true≢false, false_from_ne_true, and_from, and_parts, or_left, or_right, or_from}
use Rattle.std.proofs.lemmas.List.{append-nil}
use Rattle.std.proofs.lemmas.Option.{slice_get_within}
use Rattle.acc_stamp.specs.declared.stamps.Stamp.{Stamp}
use Rattle.acc_stamp.specs.declared.stamps.TxnId.{TxnId}
use Rattle.acc_stamp.specs.Stamp.{stamp_cmp, id_cmp, id_eq}
use Rattle.acc_stamp.specs.Rising.{IsRisingBy}
use Rattle.acc_stamp.proofs.Order.{id_order}
use Rattle.acc_deps.specs.Deps.{of_shard}
use Rattle.acc_deps.specs.declared.records.Settled.{Settled}
use Rattle.acc_message.specs.Opening.{Change, is_past}
use Rattle.acc_actor_laws.specs.OpeningOrder.{opens_in, applies_in}
use Rattle.acc_record.specs.declared.record.Record.{Record}
use Rattle.acc_record.specs.declared.shelf.Watch.{Watch}
use Rattle.acc_record.specs.Waits.{is_past_record, IsWatch}
use Rattle.acc_opening.specs.Plan.{Lookup, settled_in, is_applied_in, is_past_behind, is_ready_behind, EachRight, t_of, change_lt, IsPlan}
use Rattle.acc_opening.specs.declared.turns.Turn.{Turn}
use Rattle.acc_opening.specs.Planned.{changed, after_changes, AreWatches}
use Rattle.acc_opening.specs.Turns.{turn_lt, change_of, changes_in, HasItsTime, HaveTheirTimes}
use Rattle.acc_opening.specs.State.{IsHeld, HasTurnOf, IsPlaced, IsUnderWay}
use Rattle.acc_opening.proofs.TurnFacts.{Contains-cons_cases, Contains-first, Contains-later}
use Rattle.acc_opening.proofs.Behind.{ready-later, not_all}
use Rattle.acc_opening.proofs.StateFacts.{some_same}

-- ---- they rise

its_time : (at : Lookup) (a : Turn) → HasItsTime at a → t_of (settled_in (at a.id)) ≡ a.t
its_time at a h = ap t_of h.stable ∙ sym h.t

rises_pair : (at : Lookup) (a b : Turn) → HasItsTime at a → HasItsTime at b → turn_lt a b ≡ true → change_lt at (change_of a) (change_of b) ≡ true
rises_pair at a b p q h =
    ap (λ t. is_lt (ordering_then (stamp_cmp t (t_of (settled_in (at b.id)))) (id_cmp a.id b.id))) (its_time at a p)
    ∙ ap (λ t. is_lt (ordering_then (stamp_cmp a.t t) (id_cmp a.id b.id))) (its_time at b q) ∙ h

rises_all : (at : Lookup) (a : Turn) (done : List Turn) → HasItsTime at a → HaveTheirTimes at done → AllByRecursion (λ b. turn_lt a b ≡ true) done
    → AllByRecursion (λ d. change_lt at (change_of a) d ≡ true) (changes_in done)
rises_all at a [] p q h = tt
rises_all at a (b ∷ done) p q h = (rises_pair at a b p q.0 h.0, rises_all at a done p q.1 h.1)

changes_rise : (at : Lookup) (done : List Turn) → HaveTheirTimes at done → IsRisingBy turn_lt done → IsRisingBy (change_lt at) (changes_in done)
changes_rise at [] p r = tt
changes_rise at (a ∷ done) p r = (rises_all at a done p.0 p.1 r.0, changes_rise at done p.1 r.1)

-- ---- what a turn opens and applies

in_changes : (p : Change → Bool) (done : List Turn) (a : Turn) → Contains done a → p (change_of a) ≡ true → list_any p (changes_in done) ≡ true
in_changes p [] a c h = absurd (omega (arith, c.1))
in_changes p (b ∷ done) a c h =
    ⊎_elim (λ e. or_left (p (change_of b)) _ (ap (λ z. p (change_of z)) (sym e) ∙ h)) (λ k. or_right (p (change_of b)) _ (in_changes p done a k h))
    (Contains-cons_cases b done a c)

from_changes : (p : Change → Bool) (done : List Turn) → list_any p (changes_in done) ≡ true → (a : Turn) × Contains done a × (p (change_of a) ≡ true)
from_changes p [] h = absurd (true≢false (sym h))
from_changes p (b ∷ done) h = by (from_changes p done) (p (change_of b)) refl
  where
    by : (list_any p (changes_in done) ≡ true → (a : Turn) × Contains done a × (p (change_of a) ≡ true)) → (v : Bool) → p (change_of b) ≡ v
        → (a : Turn) × Contains (b ∷ done) a × (p (change_of a) ≡ true)
    by later true k = (b, Contains-first b done, k)
    by later false k =
        let rest = later (sym (ap (λ v. v || list_any p (changes_in done)) k) ∙ h) in
        (rest.0, Contains-later b done rest.0 rest.1, rest.2)

-- each of them is right after some changes
record RightAt (shard : ℕ) (at : Lookup) (all : List Change) (a : Turn) : Type 0 where
  there : Record
  there_is : at a.id ≡ Some there
  settled : Settled
  stable : there.stable ≡ Some settled
  opens : a.opens ≡ not there.opened
  ready : a.opens ≡ true → is_ready_behind shard at all settled ≡ true
  applies : a.applies ≡ (is_some there.outcome && not there.applied)

ready_more : (shard : ℕ) (at : Lookup) (done more : List Change) (s : Settled) → is_ready_behind shard at done s ≡ true → is_ready_behind shard at (done ++ more) s ≡ true
ready_more shard at done [] s h = subst (λ list. is_ready_behind shard at list s ≡ true) (sym (append-nil done)) h
ready_more shard at done (c ∷ more) s h =
    subst (λ list. is_ready_behind shard at list s ≡ true) (append_assoc done (c ∷ []) more)
    (ready_more shard at (done ++ c ∷ []) more s (ready-later shard at done c s h))

right_at : (shard : ℕ) (at : Lookup) (before : List Change) (done : List Turn) (a : Turn) → EachRight shard at before (changes_in done) → Contains done a
    → RightAt shard at (before ++ changes_in done) a
right_at shard at before [] a e c = absurd (omega (arith, c.1))
right_at shard at before (b ∷ done) a e c =
    ⊎_elim
    (λ k. subst (RightAt shard at (before ++ changes_in (b ∷ done))) (sym k)
    (record {
      there = e.0.there;
      there_is = e.0.there_is;
      settled = e.0.settled;
      stable = e.0.stable;
      opens = e.0.opens;
      ready = λ h. ready_more shard at before (changes_in (b ∷ done)) e.0.settled (e.0.ready h);
      applies = e.0.applies;
    }))
    (λ k. subst (λ list. RightAt shard at list a) (append_assoc before (change_of b ∷ []) (changes_in done)) (right_at shard at (before ++ change_of b ∷ []) done a e.1 k))
    (Contains-cons_cases b done a c)

-- ---- the whole

past_after : (at : Lookup) (changes : List Change) (t : Stamp) (y : TxnId) (o : Option Record) → at y ≡ o
    → is_past_record t (after_changes at changes y) ≡ is_past_behind at changes t y
past_after at changes t y None e = ap (λ p. is_past_record t (option_map (changed changes y) p)) e ∙ sym (ap (λ p. is_past t (is_applied_in p || applies_in y changes) (settled_in p)) e)
past_after at changes t y (Some r) e = ap (λ p. is_past_record t (option_map (changed changes y) p)) e ∙ sym (ap (λ p. is_past t (is_applied_in p || applies_in y changes) (settled_in p)) e)

module _ (shard : ℕ) (at : Lookup) (watching : TxnId → List Watch) (done : List Turn) (s : IsUnderWay shard at watching [] done []) where
  right_of : (a : Turn) → Contains done a → RightAt shard at (changes_in done) a
  right_of a c = right_at shard at [] done a s.each c

  -- the turn of one that was not opened opens it
  opens_it : (x : TxnId) (r : Record) → at x ≡ Some r → r.opened ≡ false → HasTurnOf x done → opens_in x (changes_in done) ≡ true
  opens_it x r there closed (a, c, e) =
      let it = right_of a c in
      let same : it.there ≡ r = some_same it.there r (sym it.there_is ∙ ap at e ∙ there) in
      let opens : a.opens ≡ true = it.opens ∙ ap not (ap (λ (z : Record). z.opened) same ∙ closed) in
      in_changes (λ (d : Change). id_eq d.id x && d.opens) done a c (and_from (id_eq a.id x) a.opens ((id_order.decides a.id x).1 e) opens)

  applies_it : (x : TxnId) (r : Record) → at x ≡ Some r → is_some r.outcome ≡ true → r.applied ≡ false → HasTurnOf x done → applies_in x (changes_in done) ≡ true
  applies_it x r there outcome applied (a, c, e) =
      let it = right_of a c in
      let same : it.there ≡ r = some_same it.there r (sym it.there_is ∙ ap at e ∙ there) in
      let applies : a.applies ≡ true =
      it.applies ∙ ap (λ (z : Record). is_some z.outcome && not z.applied) same ∙ and_from (is_some r.outcome) (not r.applied) outcome (ap not applied) in
      in_changes (λ (d : Change). id_eq d.id x && d.applies) done a c (and_from (id_eq a.id x) a.applies ((id_order.decides a.id x).1 e) applies)

  not_ready : (w : Watch) (y : TxnId) → IsHeld shard at (changes_in done) y w → (r : Record) (settled : Settled) → at w.id ≡ Some r → r.stable ≡ Some settled
      → is_ready_behind shard at (changes_in done) settled ≡ false
  not_ready w y h r settled there stable =
      let same : h.of.there ≡ r = some_same h.of.there r (sym h.of.there_is ∙ there) in
      let its : h.of.settled ≡ settled = some_same h.of.settled settled (sym h.of.stable ∙ ap (λ (z : Record). z.stable) same ∙ stable) in
      subst (λ z. is_ready_behind shard at (changes_in done) z ≡ false) its
      (not_all (is_past_behind at (changes_in done) h.of.settled.t) (of_shard h.of.settled.deps shard) w.place y h.waits_for h.held)

  stays_closed : (x : TxnId) (r : Record) (settled : Settled) → at x ≡ Some r → r.stable ≡ Some settled → r.opened ≡ false → opens_in x (changes_in done) ≡ false
      → is_ready_behind shard at (changes_in done) settled ≡ false
  stays_closed x r settled there stable closed no_turn = by (s.opened x r there (ap is_some stable) closed)
    where
      by : IsPlaced x watching [] done [] → is_ready_behind shard at (changes_in done) settled ≡ false
      by (inl h) = absurd (true≢false (sym (opens_it x r there closed h) ∙ no_turn))
      by (inr (inl (a, c, e))) = absurd (omega (arith, c.1))
      by (inr (inr (inl (y, (w, c, e))))) = not_ready w y (s.held y w c) r settled (ap at e ∙ there) stable
      by (inr (inr (inr (w, c, e)))) = absurd (omega (arith, c.1))

  is_applied_then : (x : TxnId) (r : Record) → at x ≡ Some r → r.opened ≡ true → is_some r.outcome ≡ true → r.applied ≡ false → applies_in x (changes_in done) ≡ true
  is_applied_then x r there opened outcome applied =
      ⊎_elim (applies_it x r there outcome applied) (λ h. absurd (omega (arith, h.1.1))) (s.applied x r there opened outcome applied)

  pub is_plan : IsPlan shard at (changes_in done)
  is_plan = record { each = s.each; rising = changes_rise at done s.times s.rises; opened = stays_closed; applied = is_applied_then }

  held_closed : (y : TxnId) (w : Watch) → IsHeld shard at (changes_in done) y w → opens_in w.id (changes_in done) ≡ false
  held_closed y w h =
      false_from_ne_true (opens_in w.id (changes_in done))
      (λ k.
      let a = from_changes (λ (d : Change). id_eq d.id w.id && d.opens) done k in
      let parts = and_parts (id_eq a.0.id w.id) a.0.opens a.2 in
      let it = right_of a.0 a.1 in
      let there : at w.id ≡ Some it.there = ap at (sym ((id_order.decides a.0.id w.id).0 parts.0)) ∙ it.there_is in
      true≢false (sym (it.ready parts.1) ∙ not_ready w y h it.there it.settled there it.stable))

  watch_after : (y : TxnId) (w : Watch) → IsHeld shard at (changes_in done) y w → IsWatch shard (after_changes at (changes_in done)) y w
  watch_after y w h = record {
    record_of = changed (changes_in done) w.id h.of.there;
    there = ap (option_map (changed (changes_in done) w.id)) h.of.there_is;
    closed = or_from h.of.there.opened (opens_in w.id (changes_in done)) h.of.closed (held_closed y w h);
    settled = h.of.settled;
    stable = h.of.stable;
    waits_for = h.waits_for;
    held_back = past_after at (changes_in done) h.of.settled.t y (at y) refl ∙ h.held;
    others = λ i z p e. past_after at (changes_in done) h.of.settled.t z (at z) refl ∙ h.of.past i z (omega (arith, p)) (slice_get_within (of_shard h.of.settled.deps shard) i z e) e;
  }

  all_after : (x : TxnId) (o : Option Record) → at x ≡ o → (r : Record) → option_map (changed (changes_in done) x) o ≡ Some r → is_some r.stable ≡ true → r.opened ≡ false
      → (y : TxnId) × (w : Watch) × Contains (watching y) w × (w.id ≡ x)
  all_after x None e r there stable closed = absurd cc
  all_after x (Some q) e r there stable closed = by (s.opened x q e (ap (λ (z : Record). is_some z.stable) same ∙ stable) (opened_part q.opened (opens_in x (changes_in done)) both).0)
    where
      same : changed (changes_in done) x q ≡ r
      same = some_same _ r there

      both : (q.opened || opens_in x (changes_in done)) ≡ false
      both = ap (λ (z : Record). z.opened) same ∙ closed

      opened_part : (a b : Bool) → (a || b) ≡ false → (a ≡ false) × (b ≡ false)
      opened_part true b h = absurd (true≢false h)
      opened_part false b h = (refl, h)

      by : IsPlaced x watching [] done [] → (y : TxnId) × (w : Watch) × Contains (watching y) w × (w.id ≡ x)
      by (inl h) = absurd (true≢false (sym (opens_it x q e (opened_part q.opened (opens_in x (changes_in done)) both).0 h) ∙ (opened_part q.opened (opens_in x (changes_in done)) both).1))
      by (inr (inl (a, c, k))) = absurd (omega (arith, c.1))
      by (inr (inr (inl (y, (w, c, k))))) = (y, w, c, k)
      by (inr (inr (inr (w, c, k)))) = absurd (omega (arith, c.1))

  pub are_watches : AreWatches shard (after_changes at (changes_in done)) watching
  are_watches = record { true = λ y w c. watch_after y w (s.held y w c); all = λ x r there stable closed. all_after x (at x) refl r there stable closed }
