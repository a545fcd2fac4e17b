-- What a store keeps was brought by a message that it took.
use Rattle.std.proofs.Common.{◌≡◌, Bool, true, false, cond, List, [], ◌∷◌, Option, None, Some, refl, sym, ◌∙◌, subst, ◌⊎◌, inl, inr, ⊎_elim}
use Rattle.std.specs.List.{AllByRecursion}
use Rattle.std.proofs.lemmas.Bool.{true≢false, cond-true, or_cases, cond_both}
use Rattle.acc_stamp.specs.declared.stamps.TxnId.{TxnId}
use Rattle.acc_stamp.specs.Stamp.{id_eq}
use Rattle.acc_stamp.proofs.Order.{id_order}
use Rattle.acc_deps.specs.declared.records.Settled.{Settled}
use Rattle.acc_txn.specs.declared.parts.BodyParts.{BodyParts}
use Rattle.acc_txn.specs.declared.outcome.Outcome.{Outcome}
use Rattle.acc_message.specs.declared.message.Message.{Message}
use Rattle.acc_message.specs.declared.message.Message.TheVariants.{Stable, Apply}
use Rattle.acc_message.specs.Fields.{id_of}
use Rattle.acc_message.specs.Taken.{Taken, Heard, is_heard, heard_body, known, learnt, body_in}
use Rattle.acc_message.specs.BallotRules.{stable_of, kept_outcome, settled_in, outcome_in}
use Rattle.acc_actor_laws.proofs.Standing.{not_none}
use Rattle.acc_safety_laws.proofs.Facts.{or_else_cases}

-- what a message says of x is about its own transaction
one_about : {T : Type 0} (id x : TxnId) (v w : T) → cond (id_eq id x) (Some v) None ≡ Some w → (id ≡ x) × (cond (id_eq id id) (Some v) None ≡ Some w)
one_about id x v w =
    cond_both (id_eq id x) (Some v) None (λ o. o ≡ Some w → (id ≡ x) × (cond (id_eq id id) (Some v) None ≡ Some w))
    (λ same e. ((id_order.decides id x).0 same, cond-true (id_eq id id) (Some v) None ((id_order.decides id id).1 refl) ∙ e))
    (λ _ e. absurd (not_none w e))

pub settled_about : (x : TxnId) (m : Message) (s : Settled) → settled_in x m ≡ Some s → (id_of m ≡ x) × (settled_in (id_of m) m ≡ Some s)
settled_about x (Stable from to id ballot body t deps) s e = one_about id x _ s e
settled_about x (Apply from to id ballot body t deps outcome) s e = one_about id x _ s e
settled_about x _ s e = absurd (not_none s e)

pub outcome_about : (x : TxnId) (m : Message) (o : Outcome) → outcome_in x m ≡ Some o → (id_of m ≡ x) × (outcome_in (id_of m) m ≡ Some o)
outcome_about x (Apply from to id ballot body t deps outcome) o e = one_about id x _ o e
outcome_about x _ o e = absurd (not_none o e)

-- ---- stable records and kept outcomes

pub stable_from : (D : TxnId → Settled → Type 0) (history : List Taken) (x : TxnId) (s : Settled)
    → AllByRecursion (λ (step : Taken). (r : Settled) → settled_in (id_of step.message) step.message ≡ Some r → D (id_of step.message) r) history
    → stable_of history x ≡ Some s → D x s
stable_from D [] x s each e = absurd (not_none s e)
stable_from D (step ∷ past) x s each e =
    ⊎_elim (stable_from D past x s each.1)
    (λ now. let about = settled_about x step.message s now in subst (λ y. D y s) about.0 (each.0 s about.1))
    (or_else_cases (stable_of past x) (settled_in x step.message) s e)

pub kept_from : (D : TxnId → Outcome → Type 0) (history : List Taken) (x : TxnId) (o : Outcome)
    → AllByRecursion (λ (step : Taken). (r : Outcome) → outcome_in (id_of step.message) step.message ≡ Some r → D (id_of step.message) r) history
    → kept_outcome history x ≡ Some o → D x o
kept_from D [] x o each e = absurd (not_none o e)
kept_from D (step ∷ past) x o each e =
    ⊎_elim (kept_from D past x o each.1)
    (λ now. let about = outcome_about x step.message o now in subst (λ y. D y o) about.0 (each.0 o about.1))
    (or_else_cases (kept_outcome past x) (outcome_in x step.message) o e)

-- ---- bodies

heard_learnt : (b : Bool) (id x : TxnId) (o : Option BodyParts) (before : List Heard) (body : BodyParts) → heard_body x (learnt b id o before) ≡ Some body
    → (heard_body x before ≡ Some body) ⊎ ((id ≡ x) × (o ≡ Some body))
heard_learnt true id x o before body e = inl e
heard_learnt false id x None before body e = inl e
heard_learnt false id x (Some first) before body e =
    cond_both (id_eq id x) (Some first) (heard_body x before)
    (λ k. k ≡ Some body → (heard_body x before ≡ Some body) ⊎ ((id ≡ x) × (◌≡◌ {A = Option BodyParts} (Some first) (Some body))))
    (λ same k. inr ((id_order.decides id x).0 same, k)) (λ _ k. inl k) e

pub heard_from : (D : TxnId → BodyParts → Type 0) (history : List Taken) (x : TxnId) (body : BodyParts)
    → AllByRecursion (λ (step : Taken). (r : BodyParts) → body_in step.message ≡ Some r → D (id_of step.message) r) history
    → heard_body x (known history) ≡ Some body → D x body
heard_from D [] x body each e = absurd (not_none body e)
heard_from D (step ∷ past) x body each e =
    ⊎_elim (heard_from D past x body each.1)
    (λ now. subst (λ y. D y body) now.0 (each.0 body now.1))
    (heard_learnt (is_heard (id_of step.message) (known past)) (id_of step.message) x (body_in step.message) (known past) body e)

pub heard_has_body : (x : TxnId) (heard : List Heard) → is_heard x heard ≡ true → (body : BodyParts) × (heard_body x heard ≡ Some body)
heard_has_body x [] h = absurd (true≢false (sym h))
heard_has_body x (k ∷ heard) h =
    cond_both (id_eq k.id x) (Some k.body) (heard_body x heard) (λ o. (body : BodyParts) × (o ≡ Some body))
    (λ _. (k.body, refl))
    (λ other. ⊎_elim (λ same. absurd (true≢false (sym same ∙ other))) (heard_has_body x heard) (or_cases (id_eq k.id x) (is_heard x heard) h))
