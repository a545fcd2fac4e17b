-- What one turn of a store's pass over its stable transactions adds to its changes.
use Rattle.std.proofs.Common.{◌≡◌, Bool, true, false, not, ◌&&◌, ◌||◌, cond, List, ◌∷◌, refl, sym, ◌∙◌, ◌⊎◌, inl, inr, ⊎_elim, filter}
use Rattle.std.proofs.lemmas.Bool.{true≢false, false≢true, and_parts, and_from, not-true, or_parts, cond_both}
use Rattle.acc_stamp.specs.declared.stamps.TxnId.{TxnId}
use Rattle.acc_message.specs.Opening.{Change, is_change}
use Rattle.acc_safety_laws.proofs.Timeline.{AppliedIn, OpenedIn, behind, InTurn, AllInTurn}

-- ---- what a turn's flags say: was it opened, was it applied, is it ready, has it an outcome

pub opens_tells : (opened ready : Bool) → (not opened && ready) ≡ true → (opened ≡ false) × (ready ≡ true)
opens_tells false true e = (refl, refl)
opens_tells _ _ e = absurd (false≢true e)

pub record Applies (opened applied ready outcome : Bool) : Type 0 where
  pub stands : (opened || ready) ≡ true
  pub has : outcome ≡ true
  pub once : applied ≡ false

pub applies_tells : (opened applied ready outcome : Bool) → ((opened || ready) && outcome && not applied) ≡ true
    → Applies opened applied ready outcome
applies_tells opened applied ready outcome e =
    let p = and_parts ((opened || ready) && outcome) (not applied) e in
    let q = and_parts (opened || ready) outcome p.0 in
    record { stands = q.0; has = q.1; once = not-true applied p.1 }

pub opens_from : (opened ready : Bool) → opened ≡ false → ready ≡ true → (not opened && ready) ≡ true
opens_from false true e f = refl
opens_from true ready e f = absurd (true≢false e)
opens_from false false e f = f

pub applied_or_applies : (opened applied ready outcome : Bool) → ((opened || ready) && outcome) ≡ true
    → (applied ≡ true) ⊎ (((opened || ready) && outcome && not applied) ≡ true)
applied_or_applies opened true ready outcome e = inl refl
applied_or_applies opened false ready outcome e =
    inr (and_from ((opened || ready) && outcome) true e refl)

-- ---- a change more, where it is one

abbrev pub with_change : Change → List Change → List Change
with_change c earlier = cond (is_change c) (c ∷ earlier) earlier

pub behind-filter : (c : Change) (changes earlier : List Change)
    → behind (filter is_change (c ∷ changes)) earlier ≡ behind (filter is_change changes) (with_change c earlier)
behind-filter c changes earlier = by (is_change c)
  where
    by : (b : Bool) → behind (cond b (c ∷ filter is_change changes) (filter is_change changes)) earlier
        ≡ behind (filter is_change changes) (cond b (c ∷ earlier) earlier)
    by true = refl
    by false = refl

pub applied_still : (c : Change) (earlier : List Change) (x : TxnId) → AppliedIn earlier x → AppliedIn (with_change c earlier) x
applied_still c earlier x h = cond_both (is_change c) (c ∷ earlier) earlier (λ changes. AppliedIn changes x) (λ _. inr h) (λ _. h)

pub opened_still : (c : Change) (earlier : List Change) (x : TxnId) → OpenedIn earlier x → OpenedIn (with_change c earlier) x
opened_still c earlier x h = cond_both (is_change c) (c ∷ earlier) earlier (λ changes. OpenedIn changes x) (λ _. inr h) (λ _. h)

pub applied_now : (c : Change) (earlier : List Change) → c.applies ≡ true → AppliedIn (with_change c earlier) c.id
applied_now c earlier is =
    cond_both (is_change c) (c ∷ earlier) earlier (λ changes. AppliedIn changes c.id) (λ _. inl (is, refl))
    (λ no. absurd (true≢false (sym is ∙ (or_parts c.opens c.applies no).1)))

pub opened_now : (c : Change) (earlier : List Change) → c.opens ≡ true → OpenedIn (with_change c earlier) c.id
opened_now c earlier is =
    cond_both (is_change c) (c ∷ earlier) earlier (λ changes. OpenedIn changes c.id) (λ _. inl (is, refl))
    (λ no. absurd (true≢false (sym is ∙ (or_parts c.opens c.applies no).0)))

pub applied_cases : (c : Change) (earlier : List Change) (x : TxnId) → AppliedIn (with_change c earlier) x → AppliedIn earlier x ⊎ (c.id ≡ x)
applied_cases c earlier x =
    cond_both (is_change c) (c ∷ earlier) earlier (λ changes. AppliedIn changes x → AppliedIn earlier x ⊎ (c.id ≡ x))
    (λ _ h. ⊎_elim (λ now. inr now.1) inl h) (λ _. inl)

pub in_turn_still : (below : TxnId → TxnId → Type 0) (c : Change) (earlier : List Change) → InTurn below c earlier → AllInTurn below earlier
    → AllInTurn below (with_change c earlier)
in_turn_still below c earlier turn turns =
    cond_both (is_change c) (c ∷ earlier) earlier (AllInTurn below) (λ _. (turn, turns)) (λ _. turns)
