-- Where a plan starts once the own transaction was stable before.
use Rattle.std.proofs.Common.{◌≡◌, ℕ, ◌⊎◌, inl, inr, Bool, true, false, not, ◌&&◌, ◌||◌, List, [], ◌∷◌, Option, None, Some, is_some, sym, refl, ap, ◌∙◌, subst, arith}
use Rattle.std.specs.List.{Contains}
use Rattle.std.proofs.lemmas.Bool.{true≢false, and_parts, and_from}
use Rattle.acc_stamp.specs.declared.stamps.Stamp.{Stamp}
use Rattle.acc_stamp.specs.declared.stamps.TxnId.{TxnId}
use Rattle.acc_stamp.specs.Stamp.{id_eq}
use Rattle.acc_stamp.specs.Rising.{IsRisingBy}
use Rattle.acc_stamp.proofs.Order.{id_order}
use Rattle.acc_deps.specs.declared.records.Settled.{Settled}
use Rattle.acc_message.specs.Opening.{is_past}
use Rattle.acc_record.specs.declared.record.Record.{Record}
use Rattle.acc_record.specs.declared.shelf.Watch.{Watch}
use Rattle.acc_record.specs.Shelf.{Records, Waits as AllWaits, record_at, watchers}
use Rattle.acc_record.specs.Waits.{is_past_record, IsWatch}
use Rattle.acc_opening.specs.Plan.{Lookup, settled_in, is_applied_in, is_past_behind, IsRight}
use Rattle.acc_opening.specs.declared.turns.Turn.{Turn}
use Rattle.acc_opening.specs.Known.{IsKnown}
use Rattle.acc_opening.specs.Lookup.{lookup}
use Rattle.acc_opening.specs.Turns.{turn_lt, turn_of, change_of, HasItsTime}
use Rattle.acc_opening.specs.State.{IsHeld, HasTurnOf, IsPlaced, IsUnderWay}
use Rattle.acc_opening.proofs.TurnFacts.{Contains-first}
use Rattle.acc_opening.proofs.StateFacts.{some_same, only_it}
use Rattle.acc_opening.proofs.Start.{own_at, other_at, or_nil}

past_of : (t : Stamp) (o : Option Record) → is_past t (is_applied_in o) (settled_in o) ≡ is_past_record t o
past_of t None = refl
past_of t (Some r) = refl

settled_of : (o : Option Record) → is_some (settled_in o) ≡ true → (r : Record) × (s : Settled) × (o ≡ Some r) × (r.stable ≡ Some s)
settled_of None h = absurd (true≢false (sym h))
settled_of (Some r) h = by r.stable refl h
  where
    by : (o : Option Settled) → r.stable ≡ o → is_some o ≡ true → (q : Record) × (s : Settled) × (Some r ≡ Some q) × (q.stable ≡ Some s)
    by None e k = absurd (true≢false (sym k))
    by (Some s) e k = (r, s, refl, e)

-- the record that a lookup has for a stable one that was not opened
record Looked (at : Lookup) (x : TxnId) (s : Settled) : Type 0 where
  there : Record
  there_is : at x ≡ Some there
  closed : there.opened ≡ false
  stable : there.stable ≡ Some s

module _ (shard : ℕ) (records : Records) (own : Record) (waits : AllWaits) (k : IsKnown shard records own waits) (was : is_some (settled_in (record_at records own.id)) ≡ true) where
  kept : (r : Record) × (s : Settled) × (record_at records own.id ≡ Some r) × (r.stable ≡ Some s)
  kept = settled_of (record_at records own.id) was

  stable_own : own.stable ≡ Some kept.1
  stable_own = k.kept_stable kept.0 kept.1 kept.2 kept.3

  same_parts : (x : TxnId) (b : Bool) → id_eq x own.id ≡ b
      → (settled_in (lookup records own x) ≡ settled_in (record_at records x)) × (is_applied_in (lookup records own x) ≡ is_applied_in (record_at records x))
  same_parts x false e = (ap settled_in (other_at records own x e), ap is_applied_in (other_at records own x e))
  same_parts x true e =
      let same : x ≡ own.id = (id_order.decides x own.id).0 e in
      let here : lookup records own x ≡ Some own = ap (lookup records own) same ∙ own_at records own in
      let there : record_at records x ≡ Some kept.0 = ap (record_at records) same ∙ kept.2 in (
        ap settled_in here ∙ stable_own ∙ sym (ap settled_in there ∙ kept.3),
        ap is_applied_in here ∙ k.kept_applied kept.0 kept.2 ∙ sym (ap is_applied_in there),
      )

  past_is : (t : Stamp) (z : TxnId) → is_past_behind (lookup records own) [] t z ≡ is_past_record t (record_at records z)
  past_is t z =
      let parts = same_parts z (id_eq z own.id) refl in
      ap (λ b. is_past t b (settled_in (lookup records own z))) (or_nil (is_applied_in (lookup records own z)))
      ∙ ap (λ b. is_past t b (settled_in (lookup records own z))) parts.1
      ∙ ap (is_past t (is_applied_in (record_at records z))) parts.0
      ∙ past_of t (record_at records z)

  looked : (x : TxnId) (r : Record) (s : Settled) → record_at records x ≡ Some r → r.opened ≡ false → r.stable ≡ Some s → (b : Bool) → id_eq x own.id ≡ b
      → Looked (lookup records own) x s
  looked x r s there closed stable false e = record { there = r; there_is = other_at records own x e ∙ there; closed = closed; stable = stable }
  looked x r s there closed stable true e =
      let same : x ≡ own.id = (id_order.decides x own.id).0 e in
      let is : record_at records own.id ≡ Some r = ap (record_at records) (sym same) ∙ there in
      record {
        there = own;
        there_is = ap (lookup records own) same ∙ own_at records own;
        closed = k.kept_opened r is ∙ closed;
        stable = k.kept_stable r s is stable;
      }

  held_at : (y : TxnId) (w : Watch) → IsWatch shard (record_at records) y w → IsHeld shard (lookup records own) [] y w
  held_at y w h =
      let l = looked w.id h.record_of h.settled h.there h.closed h.stable (id_eq w.id own.id) refl in
      record {
        of = record {
          there = l.there;
          there_is = l.there_is;
          closed = l.closed;
          settled = h.settled;
          stable = l.stable;
          past = λ i z p q e. past_is h.settled.t z ∙ h.others i z (omega (arith, p)) e;
        };
        waits_for = h.waits_for;
        held = past_is h.settled.t y ∙ h.held_back;
      }

  module _ (after : TxnId → List Watch) (same : (y : TxnId) → after y ≡ watchers waits y) (queue : List Turn) (rises : IsRisingBy turn_lt queue) (times : (a : Turn) → Contains queue a → HasItsTime (lookup records own) a) (due : (a : Turn) → Contains queue a → IsRight shard (lookup records own) [] (change_of a)) (comes : own.opened ≡ true → is_some own.outcome ≡ true → own.applied ≡ false → HasTurnOf own.id queue) where
    waiting_at : (x : TxnId) (r : Record) → record_at records x ≡ Some r → is_some r.stable ≡ true → r.opened ≡ false → IsPlaced x after [] [] queue
    waiting_at x r there stable closed =
        let it = k.waiting.all x r there stable closed in
        inr (inr (inl (it.0, (it.1, subst (λ list. Contains list it.1) (sym (same it.0)) it.2, it.3))))

    placed_at : (x : TxnId) (r : Record) → lookup records own x ≡ Some r → is_some r.stable ≡ true → r.opened ≡ false → (b : Bool) → id_eq x own.id ≡ b
        → IsPlaced x after [] [] queue
    placed_at x r there stable closed false e = waiting_at x r (sym (other_at records own x e) ∙ there) stable closed
    placed_at x r there stable closed true e =
        let id : x ≡ own.id = (id_order.decides x own.id).0 e in
        let it : own ≡ r = some_same own r (sym (own_at records own) ∙ ap (lookup records own) (sym id) ∙ there) in
        subst (λ z. IsPlaced z after [] [] queue) (sym id)
        (waiting_at own.id kept.0 kept.2 (ap is_some kept.3) (sym (k.kept_opened kept.0 kept.2) ∙ ap (λ (z : Record). z.opened) it ∙ closed))

    applied_at : (x : TxnId) (r : Record) → lookup records own x ≡ Some r → r.opened ≡ true → is_some r.outcome ≡ true → r.applied ≡ false → (b : Bool) → id_eq x own.id ≡ b
        → HasTurnOf x [] ⊎ HasTurnOf x queue
    applied_at x r there opened outcome applied true e =
        let id : x ≡ own.id = (id_order.decides x own.id).0 e in
        let it : own ≡ r = some_same own r (sym (own_at records own) ∙ ap (lookup records own) (sym id) ∙ there) in
        inr (subst (λ z. HasTurnOf z queue) (sym id)
        (comes (ap (λ (z : Record). z.opened) it ∙ opened) (ap (λ (z : Record). is_some z.outcome) it ∙ outcome) (ap (λ (z : Record). z.applied) it ∙ applied)))
    applied_at x r there opened outcome applied false e =
        absurd (true≢false (sym (and_from r.opened (is_some r.outcome) opened outcome) ∙ sym (k.applied x r (sym (other_at records own x e) ∙ there)) ∙ applied))

    pub resumed : IsUnderWay shard (lookup records own) after [] [] queue
    resumed = record {
      each = tt;
      times = tt;
      rises = tt;
      queue_rises = rises;
      queue_times = times;
      later = λ a b p q. absurd (omega (arith, p.1));
      due = due;
      held = λ y w c. held_at y w (k.waiting.true y w (subst (λ list. Contains list w) (same y) c));
      awake = λ w c. absurd (omega (arith, c.1));
      opened = λ x r a b e. placed_at x r a b e (id_eq x own.id) refl;
      applied = λ x r a o h e. applied_at x r a o h e (id_eq x own.id) refl;
    }

  -- nothing is due
  pub resumed_idle : (after : TxnId → List Watch) → ((y : TxnId) → after y ≡ watchers waits y) → ((own.opened && is_some own.outcome) && not own.applied) ≡ false
      → IsUnderWay shard (lookup records own) after [] [] []
  resumed_idle after same idle =
      resumed after same [] tt (λ a c. absurd (omega (arith, c.1))) (λ a c. absurd (omega (arith, c.1)))
      (λ p q r. absurd (true≢false (sym (and_from _ (not own.applied) (and_from own.opened (is_some own.outcome) p q) (ap not r)) ∙ idle)))

  -- its outcome has come
  pub resumed_due : (after : TxnId → List Watch) → ((y : TxnId) → after y ≡ watchers waits y) → (s : Settled) → own.stable ≡ Some s
      → ((own.opened && is_some own.outcome) && not own.applied) ≡ true
      → IsUnderWay shard (lookup records own) after [] [] (turn_of own s.t own.id ∷ [])
  resumed_due after same s stable ready =
      let outer = and_parts (own.opened && is_some own.outcome) (not own.applied) ready in
      let inner = and_parts own.opened (is_some own.outcome) outer.0 in
      let turn : Turn = turn_of own s.t own.id in
      let time : HasItsTime (lookup records own) turn = record { settled = s; stable = ap settled_in (own_at records own) ∙ stable; t = refl } in
      let right : IsRight shard (lookup records own) [] (change_of turn) =
      record {
        there = own;
        there_is = own_at records own;
        settled = s;
        stable = stable;
        opens = refl;
        ready = λ h. absurd (true≢false (sym h ∙ ap not inner.0));
        applies = refl;
        changes = ap (λ b. not b || (is_some own.outcome && not own.applied)) inner.0 ∙ and_from (is_some own.outcome) (not own.applied) inner.1 outer.1;
      } in
      resumed after same (turn ∷ []) (tt, tt)
      (λ a c. subst (HasItsTime (lookup records own)) (sym (only_it turn a c)) time)
      (λ a c. subst (λ z. IsRight shard (lookup records own) [] (change_of z)) (sym (only_it turn a c)) right)
      (λ p q r. (turn, Contains-first turn [], refl))
