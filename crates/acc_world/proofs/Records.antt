-- What is known, stable, kept, opened and waited for, with one more step.
use Rattle.std.proofs.Common.{◌≡◌, ℕ, Bool, true, false, not, ◌&&◌, ◌||◌, cond, List, [], ◌∷◌, Option, None, Some, refl, sym, ◌∙◌, ap}
use Rattle.std.proofs.lemmas.Bool.{true≢false, or_parts}
use Rattle.acc_base.specs.Faults.{or_else}
use Rattle.acc_stamp.specs.declared.stamps.TxnId.{TxnId}
use Rattle.acc_stamp.specs.Stamp.{id_eq}
use Rattle.acc_stamp.proofs.Order.{id_order}
use Rattle.acc_txn.specs.declared.parts.BodyParts.{BodyParts}
use Rattle.acc_message.specs.Fields.{id_of}
use Rattle.acc_message.specs.Taken.{Taken, Heard, is_heard, known, learnt, body_in, heard_body, body_known}
use Rattle.acc_message.specs.Opening.{changes_of, is_opened, is_applied}
use Rattle.acc_message.specs.StoreRules.{stable_ballots_in, stable_ballots, waiters_of}
use Rattle.acc_actor_laws.specs.OpeningOrder.{opens_in, applies_in}
use Rattle.acc_actor_laws.proofs.Standing.{not_none}
use Rattle.acc_actor_laws.proofs.OpeningOrder.{opened_stays, applied_stays, opens_in_order}
use Rattle.acc_world.specs.StepLaws.{body_about}

-- ---- the first of two options

pub kept_some : {T : Type 0} (o other : Option T) (x : T) → o ≡ Some x → or_else o other ≡ Some x
kept_some None other x is = absurd (not_none x is)
kept_some (Some y) other x is = is

pub taken_if_none : {T : Type 0} (o other : Option T) → o ≡ None → or_else o other ≡ other
taken_if_none None other is = refl
taken_if_none (Some y) other is = absurd (not_none y (sym is))

or_else-none : {T : Type 0} (o : Option T) → or_else o None ≡ o
or_else-none None = refl
or_else-none (Some x) = refl

-- ---- what is known

unheard : (x : TxnId) (heard : List Heard) → is_heard x heard ≡ false → heard_body x heard ≡ None
unheard x [] h = refl
unheard x (k ∷ heard) h =
    let parts = or_parts (id_eq k.id x) (is_heard x heard) h in
    ap (λ b. cond b (Some k.body) (heard_body x heard)) parts.0 ∙ unheard x heard parts.1

first_stays : (b : Bool) (body : BodyParts) (rest other : Option BodyParts) → (b ≡ false → or_else rest other ≡ rest)
    → or_else (cond b (Some body) rest) other ≡ cond b (Some body) rest
first_stays true body rest other h = refl
first_stays false body rest other h = h refl

heard_some : (x : TxnId) (heard : List Heard) (other : Option BodyParts) → is_heard x heard ≡ true → or_else (heard_body x heard) other ≡ heard_body x heard
heard_some x [] other h = absurd (true≢false (sym h))
heard_some x (k ∷ heard) other h =
    first_stays (id_eq k.id x) k.body (heard_body x heard) other
    (λ apart. heard_some x heard other (ap (λ b. b || is_heard x heard) (sym apart) ∙ h))

-- a message about another transaction
other_learnt : (b : Bool) (id x : TxnId) (body : Option BodyParts) (heard : List Heard) → id_eq id x ≡ false
    → heard_body x (learnt b id body heard) ≡ heard_body x heard
other_learnt true id x body heard apart = refl
other_learnt false id x None heard apart = refl
other_learnt false id x (Some body) heard apart = ap (λ b. cond b (Some body) (heard_body x heard)) apart

-- a message about this one
same_learnt : (b : Bool) (id x : TxnId) (body : Option BodyParts) (heard : List Heard) → id_eq id x ≡ true → is_heard x heard ≡ b
    → heard_body x (learnt b id body heard) ≡ or_else (heard_body x heard) body
same_learnt true id x body heard same h = sym (heard_some x heard body h)
same_learnt false id x None heard same h = sym (or_else-none (heard_body x heard))
same_learnt false id x (Some body) heard same h =
    ap (λ b. cond b (Some body) (heard_body x heard)) same ∙ sym (taken_if_none (heard_body x heard) (Some body) (unheard x heard h))

pub known_more : (step : Taken) (past : List Taken) (x : TxnId) → body_known (step ∷ past) x ≡ or_else (body_known past x) (body_about x step.message)
known_more step past x = by (id_eq (id_of step.message) x) refl
  where
    by : (b : Bool) → id_eq (id_of step.message) x ≡ b
        → body_known (step ∷ past) x ≡ or_else (body_known past x) (cond b (body_in step.message) None)
    by true same =
        same_learnt (is_heard (id_of step.message) (known past)) (id_of step.message) x (body_in step.message) (known past) same
        (ap (λ y. is_heard y (known past)) (sym ((id_order.decides (id_of step.message) x).0 same)))
    by false apart =
        other_learnt (is_heard (id_of step.message) (known past)) (id_of step.message) x (body_in step.message) (known past) apart
        ∙ sym (or_else-none (body_known past x))

-- ---- what is opened and applied

joined : (now before new : Bool) → (before ≡ true → now ≡ true) → new ≡ (now && not before) → now ≡ (before || new)
joined true true new h is = refl
joined true false new h is = sym is
joined false true new h is = h refl
joined false false new h is = sym is

pub opened_more : (shard : ℕ) (step : Taken) (past : List Taken) (x : TxnId)
    → is_opened shard (step ∷ past) x ≡ (is_opened shard past x || opens_in x (changes_of shard step past))
opened_more shard step past x =
    joined (is_opened shard (step ∷ past) x) (is_opened shard past x) (opens_in x (changes_of shard step past)) (opened_stays shard step past x)
    ((opens_in_order shard step past).opened x)

pub applied_more : (shard : ℕ) (step : Taken) (past : List Taken) (x : TxnId)
    → is_applied shard (step ∷ past) x ≡ (is_applied shard past x || applies_in x (changes_of shard step past))
applied_more shard step past x =
    joined (is_applied shard (step ∷ past) x) (is_applied shard past x) (applies_in x (changes_of shard step past)) (applied_stays shard step past x)
    ((opens_in_order shard step past).applied x)

-- ---- who waits

pub waiters_more : (shard : ℕ) (step : Taken) (past : List Taken) (x : TxnId)
    → waiters_of shard (step ∷ past) x ≡ cond (is_opened shard (step ∷ past) x) [] (stable_ballots_in x step.message (waiters_of shard past x))
waiters_more shard step past x = by (is_opened shard (step ∷ past) x) (is_opened shard past x) (opened_stays shard step past x)
  where
    by : (now before : Bool) → (before ≡ true → now ≡ true)
        → cond now [] (stable_ballots_in x step.message (stable_ballots past x)) ≡ cond now [] (stable_ballots_in x step.message (cond before [] (stable_ballots past x)))
    by true before h = refl
    by false true h = absurd (true≢false (sym (h refl)))
    by false false h = refl
