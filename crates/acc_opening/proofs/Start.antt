-- Where a plan starts.
use Rattle.std.proofs.Common.{◌≡◌, ℕ, ◌⊎◌, inl, inr, ⊎_elim, Bool, true, false, cond, ◌||◌, List, [], ◌∷◌, ◌++◌, length, Option, None, Some, is_some, sym, refl, ap, ◌∙◌, subst, arith}
use Rattle.std.specs.List.{Contains}
use Rattle.std.specs.Map.{lookup as lookup_in}
use Rattle.std.proofs.lemmas.Bool.{true≢false, false_from_ne_true, and_from}
use Rattle.std.proofs.lemmas.List.Elements.{Contains-append_left, Contains-append_right, Contains-append_cases}
use Rattle.acc_stamp.specs.declared.stamps.Stamp.{Stamp}
use Rattle.acc_stamp.specs.declared.stamps.TxnId.{TxnId}
use Rattle.acc_stamp.specs.Stamp.{id_eq}
use Rattle.acc_stamp.proofs.Order.{id_order}
use Rattle.acc_deps.specs.Deps.{of_shard}
use Rattle.acc_deps.specs.declared.records.Settled.{Settled}
use Rattle.acc_message.specs.Opening.{is_past}
use Rattle.acc_record.specs.declared.record.Record.{Record}
use Rattle.acc_record.specs.declared.shelf.Watch.{Watch}
use Rattle.acc_record.specs.Shelf.{Records, Waits as AllWaits, record_at, watchers}
use Rattle.acc_record.specs.Waits.{is_past_record, IsWatch}
use Rattle.acc_opening.specs.Plan.{Lookup, settled_in, is_applied_in, is_past_behind}
use Rattle.acc_opening.specs.Known.{IsKnown}
use Rattle.acc_opening.specs.Lookup.{lookup}
use Rattle.acc_opening.specs.Touched.{TouchedWaits, watches_with, watches_now, is_same}
use Rattle.acc_opening.specs.State.{IsClosed, IsHeld, IsWoken, HasTurnOf, IsPlaced, IsUnderWay}
use Rattle.acc_opening.proofs.TurnFacts.{Contains-first}
use Rattle.acc_opening.proofs.StateFacts.{is_same-true, is_same-itself, some_same, only_it}

-- nothing is touched at first
pub untouched : (touched : TouchedWaits) (waits : AllWaits) (y : TxnId) → touched.entries ≡ [] → watches_now touched waits y ≡ watchers waits y
untouched touched waits y e = ap (λ es. watches_with (lookup_in (is_same y) es) (watchers waits y)) e

-- ---- what a lookup has

module _ (records : Records) (own : Record) where
  pub own_at : lookup records own own.id ≡ Some own
  own_at = ap (λ b. cond b (Some own) (record_at records own.id)) ((id_order.decides own.id own.id).1 refl)

  pub other_at : (x : TxnId) → id_eq x own.id ≡ false → lookup records own x ≡ record_at records x
  other_at x e = ap (λ b. cond b (Some own) (record_at records x)) e

pub or_nil : (b : Bool) → (b || false) ≡ b
or_nil true = refl
or_nil false = refl

-- after nothing, a record holds back what it holds back by itself
past_alone : (at : Lookup) (t : Stamp) (z : TxnId) (o : Option Record) → at z ≡ o → is_past_behind at [] t z ≡ is_past_record t o
past_alone at t z None e = ap (λ p. is_past t (is_applied_in p || false) (settled_in p)) e
past_alone at t z (Some r) e = ap (λ p. is_past t (is_applied_in p || false) (settled_in p)) e ∙ ap (λ b. is_past t b r.stable) (or_nil r.applied)

unsettled_past : (t : Stamp) (o : Option Record) → settled_in o ≡ None → is_past_record t o ≡ false
unsettled_past t None e = refl
unsettled_past t (Some r) e = ap (is_past t r.applied) e

-- ---- where the own transaction becomes stable

module _ (shard : ℕ) (records : Records) (own : Record) (waits : AllWaits) (k : IsKnown shard records own waits) (fresh : settled_in (record_at records own.id) ≡ None) where
  not_own : (x : TxnId) (r : Record) (s : Settled) → record_at records x ≡ Some r → r.stable ≡ Some s → id_eq x own.id ≡ false
  not_own x r s there stable =
      false_from_ne_true (id_eq x own.id)
      (λ e. let same : x ≡ own.id = (id_order.decides x own.id).0 e in
      let is : settled_in (record_at records own.id) ≡ Some s = ap (λ z. settled_in (record_at records z)) (sym same) ∙ ap settled_in there ∙ stable in
      let no : None ≡ Some s = sym fresh ∙ is in
      cc)

  -- the own transaction was not opened
  closed_by : (o : Option Record) → record_at records own.id ≡ o → own.opened ≡ false
  closed_by None e = k.new_opened e
  closed_by (Some r) e =
      k.kept_opened r e
      ∙ false_from_ne_true r.opened
      (λ h. true≢false (sym (k.opened own.id r e h) ∙ ap is_some (sym (ap settled_in e) ∙ fresh)))

  own_closed : own.opened ≡ false
  own_closed = closed_by (record_at records own.id) refl

  past_at : (t : Stamp) (z : TxnId) → is_past_record t (record_at records z) ≡ true → is_past_behind (lookup records own) [] t z ≡ true
  past_at t z h = by (id_eq z own.id) refl
    where
      by : (b : Bool) → id_eq z own.id ≡ b → is_past_behind (lookup records own) [] t z ≡ true
      by true e =
          let same : z ≡ own.id = (id_order.decides z own.id).0 e in
          absurd (true≢false (sym h ∙ ap (λ y. is_past_record t (record_at records y)) same ∙ unsettled_past t (record_at records own.id) fresh))
      by false e = past_alone (lookup records own) t z (record_at records z) (other_at records own z e) ∙ h

  watch_closed : (y : TxnId) (w : Watch) → IsWatch shard (record_at records) y w → IsClosed shard (lookup records own) [] w.id w.place
  watch_closed y w h = record {
    there = h.record_of;
    there_is = other_at records own w.id (not_own w.id h.record_of h.settled h.there h.stable) ∙ h.there;
    closed = h.closed;
    settled = h.settled;
    stable = h.stable;
    past = λ i z p q e. past_at h.settled.t z (h.others i z (omega (arith, p)) e);
  }

  watch_held : (y : TxnId) (w : Watch) (h : IsWatch shard (record_at records) y w) → id_eq y own.id ≡ false → IsHeld shard (lookup records own) [] y w
  watch_held y w h e = record {
    of = record {
      there = h.record_of;
      there_is = other_at records own w.id (not_own w.id h.record_of h.settled h.there h.stable) ∙ h.there;
      closed = h.closed;
      settled = h.settled;
      stable = h.stable;
      past = λ i z p q e. past_at h.settled.t z (h.others i z (omega (arith, p)) e);
    };
    waits_for = h.waits_for;
    held = past_alone (lookup records own) h.settled.t y (record_at records y) (other_at records own y e) ∙ h.held_back;
  }

  own_woken : (s : Settled) (place : ℕ) → own.stable ≡ Some s → place ≡ length (of_shard s.deps shard) → (w : Watch) → w ≡ record { id = own.id; place = place }
      → IsClosed shard (lookup records own) [] w.id w.place
  own_woken s place stable end w e =
      subst (λ (v : Watch). IsClosed shard (lookup records own) [] v.id v.place) (sym e)
      (record {
        there = own;
        there_is = own_at records own;
        closed = own_closed;
        settled = s;
        stable = stable;
        past = λ i z p q h. absurd (omega (arith, p, q, end));
      })

  apart_from : (y : TxnId) → is_same own.id y ≡ false → id_eq y own.id ≡ false
  apart_from y e =
      false_from_ne_true (id_eq y own.id)
      (λ h. true≢false (sym (subst (λ z. is_same own.id z ≡ true) (sym ((id_order.decides y own.id).0 h)) (is_same-itself own.id)) ∙ e))

  module _ (after : TxnId → List Watch) (takes : (y : TxnId) → after y ≡ cond (is_same own.id y) [] (watchers waits y)) (s : Settled) (place : ℕ) (settled : own.stable ≡ Some s) (end : place ≡ length (of_shard s.deps shard)) (woken : List Watch) (are : woken ≡ watchers waits own.id ++ record { id = own.id; place = place } ∷ []) where
    held_at : (y : TxnId) (w : Watch) (b : Bool) → is_same own.id y ≡ b → Contains (cond b [] (watchers waits y)) w → IsHeld shard (lookup records own) [] y w
    held_at y w true e c = absurd (omega (arith, c.1))
    held_at y w false e c = watch_held y w (k.waiting.true y w c) (apart_from y e)

    woken_at : (w : Watch) → Contains woken w → IsWoken shard (lookup records own) [] w
    woken_at w c = record {
      of = ⊎_elim (λ h. watch_closed own.id w (k.waiting.true own.id w h)) (λ h. own_woken s place settled end w (only_it _ w h))
          (Contains-append_cases (watchers waits own.id) (record { id = own.id; place = place } ∷ []) w (subst (λ list. Contains list w) are c));
      later = λ a t p e. absurd (omega (arith, p.1));
    }

    placed_other : (x : TxnId) (y : TxnId) (w : Watch) → Contains (watchers waits y) w → w.id ≡ x → (b : Bool) → is_same own.id y ≡ b → IsPlaced x after woken [] []
    placed_other x y w c e true h =
        let same : own.id ≡ y = is_same-true own.id y h in
        inr (inr (inr (w, subst (λ list. Contains list w) (sym are) (Contains-append_left (watchers waits own.id) _ w (subst (λ z. Contains (watchers waits z) w) (sym same) c)), e)))
    placed_other x y w c e false h =
        inr (inr (inl (y, (w, subst (λ list. Contains list w) (sym (takes y ∙ ap (λ b. cond b [] (watchers waits y)) h)) c, e))))

    placed_at : (x : TxnId) (r : Record) → lookup records own x ≡ Some r → is_some r.stable ≡ true → r.opened ≡ false → (b : Bool) → id_eq x own.id ≡ b
        → IsPlaced x after woken [] []
    placed_at x r there stable closed true h =
        let same : x ≡ own.id = (id_order.decides x own.id).0 h in
        inr (inr (inr (
          record { id = own.id; place = place },
          subst (λ list. Contains list (record { id = own.id; place = place })) (sym are) (Contains-append_right (watchers waits own.id) _ _ (Contains-first _ [])),
          sym same,
        )))
    placed_at x r there stable closed false h =
        let it = k.waiting.all x r (sym (other_at records own x h) ∙ there) stable closed in
        placed_other x it.0 it.1 it.2 it.3 (is_same own.id it.0) refl

    applied_at : (x : TxnId) (r : Record) → lookup records own x ≡ Some r → r.opened ≡ true → is_some r.outcome ≡ true → r.applied ≡ false → (b : Bool) → id_eq x own.id ≡ b
        → HasTurnOf x [] ⊎ HasTurnOf x []
    applied_at x r there opened outcome applied true h =
        let same : own ≡ r = some_same own r (sym (own_at records own) ∙ ap (lookup records own) (sym ((id_order.decides x own.id).0 h)) ∙ there) in
        absurd (true≢false (sym opened ∙ ap (λ (z : Record). z.opened) (sym same) ∙ own_closed))
    applied_at x r there opened outcome applied false h =
        absurd (true≢false (sym (and_from r.opened (is_some r.outcome) opened outcome) ∙ sym (k.applied x r (sym (other_at records own x h) ∙ there)) ∙ applied))

    pub arrived : IsUnderWay shard (lookup records own) after woken [] []
    arrived = record {
      each = tt;
      times = tt;
      rises = tt;
      queue_rises = tt;
      queue_times = λ a c. absurd (omega (arith, c.1));
      later = λ a b p q. absurd (omega (arith, p.1));
      due = λ a c. absurd (omega (arith, c.1));
      held = λ y w c. held_at y w (is_same own.id y) refl (subst (λ list. Contains list w) (takes y) c);
      awake = woken_at;
      opened = λ x r a b e. placed_at x r a b e (id_eq x own.id) refl;
      applied = λ x r a o h e. applied_at x r a o h e (id_eq x own.id) refl;
    }
