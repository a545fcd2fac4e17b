-- What one more change makes of readiness.
use Rattle.std.proofs.Common.{◌≡◌, ℕ, ◌<◌, Bool, true, false, not, ◌&&◌, ◌||◌, List, [], ◌∷◌, ◌++◌, length, suc, zero, Option, None, Some, sym, refl, ap, ◌∙◌, subst, arith, append_assoc}
use Rattle.std.specs.List.{list_all, slice_get}
use Rattle.std.proofs.lemmas.Bool.{true≢false, and_parts, and_from}
use Rattle.std.proofs.lemmas.List.{append-nil}
use Rattle.std.proofs.lemmas.List.Folds.{list_any-append}
use Rattle.acc_stamp.specs.declared.stamps.Stamp.{Stamp}
use Rattle.acc_stamp.specs.declared.stamps.TxnId.{TxnId}
use Rattle.acc_stamp.specs.Stamp.{stamp_lt, id_eq}
use Rattle.acc_deps.specs.Deps.{of_shard}
use Rattle.acc_deps.specs.declared.records.Settled.{Settled}
use Rattle.acc_message.specs.Opening.{Change, is_past}
use Rattle.acc_actor_laws.specs.OpeningOrder.{applies_in}
use Rattle.acc_opening.specs.Plan.{Lookup, settled_in, is_applied_in, is_past_behind, is_ready_behind, is_applied_behind, IsRight, EachRight}
use Rattle.acc_opening.specs.State.{IsClosed}

past_more : (t : Stamp) (a b : Bool) (o : Option Settled) → (a ≡ true → b ≡ true) → is_past t a o ≡ true → is_past t b o ≡ true
past_more t a b None f h = h
past_more t a b (Some s) f h = more (not (stamp_lt s.t t)) a b f h
  where
    more : (c a b : Bool) → (a ≡ true → b ≡ true) → (c || a) ≡ true → (c || b) ≡ true
    more true a b f h = refl
    more false a b f h = f h

applies_more : (y : TxnId) (done : List Change) (c : Change)
    → applies_in y (done ++ c ∷ []) ≡ (applies_in y done || ((id_eq c.id y && c.applies) || false))
applies_more y done c = list_any-append (λ (d : Change). id_eq d.id y && d.applies) done (c ∷ [])

or_more : (a b c : Bool) → (a || b) ≡ true → (a || (b || c)) ≡ true
or_more true b c h = refl
or_more false true c h = refl
or_more false false c h = absurd (true≢false (sym h))

or_none : (a b : Bool) → (a || (b || (false || false))) ≡ (a || b)
or_none true b = refl
or_none false true = refl
or_none false false = refl

-- what was past stays past
pub past-later : (at : Lookup) (done : List Change) (c : Change) (t : Stamp) (y : TxnId) → is_past_behind at done t y ≡ true
    → is_past_behind at (done ++ c ∷ []) t y ≡ true
past-later at done c t y h =
    past_more t (is_applied_behind at done y) (is_applied_behind at (done ++ c ∷ []) y) (settled_in (at y))
    (λ k. ap (λ b. is_applied_in (at y) || b) (applies_more y done c)
    ∙ or_more (is_applied_in (at y)) (applies_in y done) ((id_eq c.id y && c.applies) || false) k) h

-- a change that doesn't apply y changes nothing for y
pub past-same : (at : Lookup) (done : List Change) (c : Change) (t : Stamp) (y : TxnId) → (id_eq c.id y && c.applies) ≡ false
    → is_past_behind at (done ++ c ∷ []) t y ≡ is_past_behind at done t y
past-same at done c t y h =
    ap (λ b. is_past t (is_applied_in (at y) || b) (settled_in (at y))) (applies_more y done c)
    ∙ ap (λ b. is_past t (is_applied_in (at y) || (applies_in y done || (b || false))) (settled_in (at y))) h
    ∙ ap (λ b. is_past t b (settled_in (at y))) (or_none (is_applied_in (at y)) (applies_in y done))

all_more : (p q : TxnId → Bool) (ids : List TxnId) → ((y : TxnId) → p y ≡ true → q y ≡ true) → list_all p ids ≡ true → list_all q ids ≡ true
all_more p q [] f h = refl
all_more p q (y ∷ ys) f h =
    let parts = and_parts (p y) (list_all p ys) h in
    and_from (q y) (list_all q ys) (f y parts.0) (all_more p q ys f parts.1)

pub ready-later : (shard : ℕ) (at : Lookup) (done : List Change) (c : Change) (s : Settled) → is_ready_behind shard at done s ≡ true
    → is_ready_behind shard at (done ++ c ∷ []) s ≡ true
ready-later shard at done c s h =
    all_more (is_past_behind at done s.t) (is_past_behind at (done ++ c ∷ []) s.t) (of_shard s.deps shard) (past-later at done c s.t) h

pub right-later : (shard : ℕ) (at : Lookup) (done : List Change) (c d : Change) → IsRight shard at done d → IsRight shard at (done ++ c ∷ []) d
right-later shard at done c d r = record {
  there = r.there;
  there_is = r.there_is;
  settled = r.settled;
  stable = r.stable;
  opens = r.opens;
  ready = λ h. ready-later shard at done c r.settled (r.ready h);
  applies = r.applies;
  changes = r.changes;
}

abbrev pub closed-later : (shard : ℕ) (at : Lookup) (done : List Change) (c : Change) (x : TxnId) (place : ℕ) → IsClosed shard at done x place
    → IsClosed shard at (done ++ c ∷ []) x place
closed-later shard at done c x place r = record {
  there = r.there;
  there_is = r.there_is;
  closed = r.closed;
  settled = r.settled;
  stable = r.stable;
  past = λ i z p q e. past-later at done c r.settled.t z (r.past i z p q e);
}

-- the change that is right after all of them may be added
pub each-push : (shard : ℕ) (at : Lookup) (done changes : List Change) (c : Change) → EachRight shard at done changes
    → IsRight shard at (done ++ changes) c → EachRight shard at done (changes ++ c ∷ [])
each-push shard at done [] c e r = (subst (λ list. IsRight shard at list c) (append-nil done) r, tt)
each-push shard at done (d ∷ changes) c e r = (
  e.0,
  each-push shard at (done ++ d ∷ []) changes c e.1
      (subst (λ list. IsRight shard at list c) (sym (append_assoc done (d ∷ []) changes)) r),
)

-- every one of them is past, told by places
pub all_past : (p : TxnId → Bool) (ids : List TxnId) → ((i : ℕ) (z : TxnId) → i < length ids → slice_get ids i ≡ Some z → p z ≡ true)
    → list_all p ids ≡ true
all_past p [] f = refl
all_past p (y ∷ ys) f = and_from (p y) (list_all p ys) (f 0 y (omega arith) refl) (all_past p ys (λ i z h e. f (suc i) z (omega arith) e))

-- one that is not past is found by its place
pub not_all : (p : TxnId → Bool) (ids : List TxnId) (i : ℕ) (z : TxnId) → slice_get ids i ≡ Some z → p z ≡ false → list_all p ids ≡ false
not_all p [] i z e h = absurd cc
not_all p (y ∷ ys) zero z e h =
    let same : y ≡ z = cc in
    ap (λ b. b && list_all p ys) (ap p same ∙ h)
not_all p (y ∷ ys) (suc i) z e h = later (p y) (not_all p ys i z e h)
  where
    later : (b : Bool) → list_all p ys ≡ false → (b && list_all p ys) ≡ false
    later true k = k
    later false k = refl
