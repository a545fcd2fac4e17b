-- What a store knows stays known, by the body that it heard first.
use Rattle.std.proofs.Common.{◌≡◌, Bool, true, false, cond, List, [], ◌∷◌, Option, None, Some, refl, sym, ◌∙◌, ap, subst}
use Rattle.std.proofs.lemmas.Bool.{true≢false, or_left, or_right}
use Rattle.acc_stamp.specs.declared.stamps.TxnId.{TxnId}
use Rattle.acc_stamp.specs.declared.actors.Actor.{Actor}
use Rattle.acc_stamp.specs.Stamp.{id_eq}
use Rattle.acc_stamp.proofs.Order.{id_order, eq_itself}
use Rattle.acc_topology.specs.Layout.{Layout}
use Rattle.acc_txn.specs.declared.parts.BodyParts.{BodyParts}
use Rattle.acc_message.specs.declared.message.Message.{Message}
use Rattle.acc_message.specs.Fields.{id_of}
use Rattle.acc_message.specs.Taken.{Taken, Heard, body_in, is_heard, learnt, known, heard_body, body_known}
use Rattle.acc_actor_laws.proofs.Standing.{not_none}
use Rattle.acc_actor_laws.proofs.OpeningFacts.{some_is}
use Rattle.acc_safety.specs.Places.{IsIn, First, Later, StandsAt, IsPast, Whole, Behind}
use Rattle.acc_safety.specs.Histories.{EachAnswers}
use Rattle.acc_safety.specs.StoreSends.{StoreSends}
use Rattle.acc_safety.proofs.PlaceOrder.{StandsAt-IsPast}
use Rattle.acc_safety.proofs.StoreSent.{store_sends}
use Rattle.acc_safety.proofs.Bridge.{EachAnswers-past}

-- ---- what is heard

-- a known transaction is among those that are heard
is_heard_by : (x : TxnId) (k : Heard) (heard : List Heard) (body : BodyParts) (b : Bool) → id_eq k.id x ≡ b
    → cond b (Some k.body) (heard_body x heard) ≡ Some body → (heard_body x heard ≡ Some body → is_heard x heard ≡ true)
    → is_heard x (k ∷ heard) ≡ true
is_heard_by x k heard body true is e rest = or_left (id_eq k.id x) (is_heard x heard) is
is_heard_by x k heard body false is e rest = or_right (id_eq k.id x) (is_heard x heard) (rest e)

pub heard_body-is_heard : (x : TxnId) (heard : List Heard) (body : BodyParts) → heard_body x heard ≡ Some body → is_heard x heard ≡ true
heard_body-is_heard x [] body e = absurd (not_none body e)
heard_body-is_heard x (k ∷ heard) body e = is_heard_by x k heard body (id_eq k.id x) refl e (heard_body-is_heard x heard body)

-- with its body
heard_body_by : (x : TxnId) (k : Heard) (heard : List Heard) (body : BodyParts) (b : Bool) → id_eq k.id x ≡ b
    → cond b (Some k.body) (heard_body x heard) ≡ Some body
    → (heard_body x heard ≡ Some body → IsIn (record { id = x; body = body }) heard)
    → IsIn (record { id = x; body = body }) (k ∷ heard)
heard_body_by x k heard body true is e rest =
    subst (λ z. IsIn (record { id = z; body = body }) (k ∷ heard)) ((id_order.decides k.id x).0 is)
    (subst (λ z. IsIn (record { id = k.id; body = z }) (k ∷ heard)) (some_is k.body body e) (First k heard))
heard_body_by x k heard body false is e rest = Later (record { id = x; body = body }) k heard (rest e)

pub heard_body-IsIn : (x : TxnId) (heard : List Heard) (body : BodyParts) → heard_body x heard ≡ Some body
    → IsIn (record { id = x; body = body }) heard
heard_body-IsIn x [] body e = absurd (not_none body e)
heard_body-IsIn x (k ∷ heard) body e = heard_body_by x k heard body (id_eq k.id x) refl e (heard_body-IsIn x heard body)

-- ---- one message more

-- the newest is another one, where x was known before
new_isnt : (id x : TxnId) (body first : BodyParts) (before : List Heard) (b : Bool) → is_heard id before ≡ false → id_eq id x ≡ b
    → heard_body x before ≡ Some body → cond b (Some first) (heard_body x before) ≡ Some body
new_isnt id x body first before true unheard is e =
    absurd (true≢false (sym (heard_body-is_heard x before body e) ∙ subst (λ z. is_heard z before ≡ false) ((id_order.decides id x).0 is) unheard))
new_isnt id x body first before false unheard is e = e

learnt_stays : (b : Bool) (id x : TxnId) (o : Option BodyParts) (body : BodyParts) (before : List Heard) → is_heard id before ≡ b
    → heard_body x before ≡ Some body → heard_body x (learnt b id o before) ≡ Some body
learnt_stays true id x o body before is e = e
learnt_stays false id x None body before is e = e
learnt_stays false id x (Some first) body before is e = new_isnt id x body first before (id_eq id x) is refl e

pub body_known-stays : (step : Taken) (past : List Taken) (x : TxnId) (body : BodyParts) → body_known past x ≡ Some body
    → body_known (step ∷ past) x ≡ Some body
body_known-stays step past x body e =
    learnt_stays (is_heard (id_of step.message) (known past)) (id_of step.message) x (body_in step.message) body (known past) refl e

-- what becomes known is what the message is about
pub record Learns (m : Message) (x : TxnId) (body : BodyParts) : Type 0 where
  pub about : id_of m ≡ x
  pub brings : body_in m ≡ Some body

new_is : (id x : TxnId) (body first : BodyParts) (b : Bool) → id_eq id x ≡ b → cond b (Some first) None ≡ Some body → (id ≡ x) × (first ≡ body)
new_is id x body first true is e = ((id_order.decides id x).0 is, some_is first body e)
new_is id x body first false is e = absurd (not_none body e)

learnt_learns : (m : Message) (b : Bool) (x : TxnId) (o : Option BodyParts) (body : BodyParts) (before : List Heard) → body_in m ≡ o
    → heard_body x before ≡ None → heard_body x (learnt b (id_of m) o before) ≡ Some body → Learns m x body
learnt_learns m true x o body before is unknown e = absurd (not_none body (sym unknown ∙ e))
learnt_learns m false x None body before is unknown e = absurd (not_none body (sym unknown ∙ e))
learnt_learns m false x (Some first) body before is unknown e =
    let new = new_is (id_of m) x body first (id_eq (id_of m) x) refl (ap (λ o. cond (id_eq (id_of m) x) (Some first) o) (sym unknown) ∙ e) in
    record { about = new.0; brings = is ∙ ap Some new.1 }

pub body_known-new : (step : Taken) (past : List Taken) (x : TxnId) (body : BodyParts) → body_known past x ≡ None
    → body_known (step ∷ past) x ≡ Some body → Learns step.message x body
body_known-new step past x body unknown e =
    learnt_learns step.message (is_heard (id_of step.message) (known past)) x (body_in step.message) body (known past) refl unknown e

-- ---- further back

pub body_known-past : (x : TxnId) (body : BodyParts) (past history : List Taken) → body_known past x ≡ Some body → IsPast past history
    → body_known history x ≡ Some body
body_known-past x body past history e (Whole xs) = e
body_known-past x body past history e (Behind step xs ys there) = body_known-stays step ys x body (body_known-past x body xs ys e there)

pub step_answers : (layout : Layout) (own : Actor) (step : Taken) (past history : List Taken) → EachAnswers layout own history
    → StandsAt step past history → EachAnswers layout own (step ∷ past)
step_answers layout own step past history each at = EachAnswers-past layout own (step ∷ past) history (StandsAt-IsPast step past history at) each

pub step_sends : (layout : Layout) (own : Actor) (step : Taken) (past : List Taken) (m : Message) → EachAnswers layout own (step ∷ past)
    → IsIn m step.sent → StoreSends layout own past step.message m
step_sends layout own step past m each sent = store_sends layout own past step.message m (subst (IsIn m) each.0 sent)

-- ---- each is heard once

-- no other one has its id
abbrev Once : List Heard → Type 0
Once [] = Unit {0}
Once (k ∷ heard) = (is_heard k.id heard ≡ false) × Once heard

once_learnt : (b : Bool) (id : TxnId) (o : Option BodyParts) (before : List Heard) → is_heard id before ≡ b → Once before → Once (learnt b id o before)
once_learnt true id o before is once = once
once_learnt false id None before is once = once
once_learnt false id (Some body) before is once = (is, once)

known-once : (history : List Taken) → Once (known history)
known-once [] = tt
known-once (step ∷ past) =
    once_learnt (is_heard (id_of step.message) (known past)) (id_of step.message) (body_in step.message) (known past) refl (known-once past)

heard_first : (k : Heard) (heard : List Heard) → heard_body k.id (k ∷ heard) ≡ Some k.body
heard_first k heard = ap (λ b. cond b (Some k.body) (heard_body k.id heard)) (eq_itself id_order k.id)

heard_later : (j k : Heard) (heard : List Heard) (b : Bool) → id_eq j.id k.id ≡ b → is_heard j.id heard ≡ false → heard_body k.id heard ≡ Some k.body
    → heard_body k.id (j ∷ heard) ≡ Some k.body
heard_later j k heard true is unheard e =
    absurd (true≢false (sym (heard_body-is_heard k.id heard k.body e) ∙ subst (λ z. is_heard z heard ≡ false) ((id_order.decides j.id k.id).0 is) unheard))
heard_later j k heard false is unheard e = ap (λ b. cond b (Some j.body) (heard_body k.id heard)) is ∙ e

IsIn-heard_body : (k : Heard) (heard : List Heard) → IsIn k heard → Once heard → heard_body k.id heard ≡ Some k.body
IsIn-heard_body k heard (First a rest) once = heard_first a rest
IsIn-heard_body k heard (Later a b rest there) once = heard_later b a rest (id_eq b.id a.id) refl once.0 (IsIn-heard_body a rest there once.1)

-- what is known is known by its body
pub known_itself : (k : Heard) (history : List Taken) → IsIn k (known history) → body_known history k.id ≡ Some k.body
known_itself k history there = IsIn-heard_body k (known history) there (known-once history)
