-- The known transactions, each once with its body.
use Rattle.std.proofs.Common.{◌≡◌, Bool, true, false, cond, List, [], ◌∷◌, Option, None, Some, is_some, refl, sym, ap, subst, ◌∙◌, arith, ⊎_elim}
use Rattle.std.specs.List.{Contains}
use Rattle.std.proofs.lemmas.Bool.{true≢false, false_from_ne_true}
use Rattle.acc_stamp.specs.declared.stamps.TxnId.{TxnId}
use Rattle.acc_stamp.specs.Stamp.{id_eq}
use Rattle.acc_stamp.proofs.Order.{id_order, eq_itself}
use Rattle.acc_lanes.proofs.Members.{there, first_or_rest, in_nothing}
use Rattle.acc_txn.specs.declared.parts.BodyParts.{BodyParts}
use Rattle.acc_message.specs.Fields.{id_of}
use Rattle.acc_message.specs.Taken.{Taken, Heard, body_in, is_heard, learnt, known, heard_body, body_known}
use Rattle.acc_actor_laws.proofs.Standing.{not_none}
use Rattle.acc_actor_laws.proofs.OpeningFacts.{some_is}
use Rattle.acc_record.proofs.Apart.{heard_is_known}

first_is : (k : Heard) (heard : List Heard) → Contains (k ∷ heard) k
first_is k heard = (0, omega arith, refl)

-- what is known of a transaction stands among the known
pub heard_there : (y : TxnId) (b : BodyParts) (heard : List Heard) → heard_body y heard ≡ Some b → Contains heard (record { id = y; body = b })
heard_there y b [] h = absurd (not_none b h)
heard_there y b (k ∷ heard) h = by (id_eq k.id y) refl (λ e. heard_there y b heard e)
  where
    by : (c : Bool) → id_eq k.id y ≡ c → (heard_body y heard ≡ Some b → Contains heard (record { id = y; body = b })) → Contains (k ∷ heard) (record { id = y; body = b })
    by true e rest =
        let same_id : k.id ≡ y = (id_order.decides k.id y).0 e in
        let same_body : k.body ≡ b = some_is k.body b (sym (ap (λ c. cond c (Some k.body) (heard_body y heard)) e) ∙ h) in
        let same : k ≡ record { id = y; body = b } = λ i. record { id = same_id i; body = same_body i } in
        subst (Contains (k ∷ heard)) same (first_is k heard)
    by false e rest = there k heard (record { id = y; body = b }) (rest (sym (ap (λ c. cond c (Some k.body) (heard_body y heard)) e) ∙ h))

-- and what stands among them is what is known
learnt_told : (b : Bool) (id : TxnId) (o : Option BodyParts) (before : List Heard) → is_heard id before ≡ b
    → ((k : Heard) → Contains before k → heard_body k.id before ≡ Some k.body)
    → (k : Heard) → Contains (learnt b id o before) k → heard_body k.id (learnt b id o before) ≡ Some k.body
learnt_told true id o before e all k c = all k c
learnt_told false id None before e all k c = all k c
learnt_told false id (Some body) before e all k c = ⊎_elim here later (first_or_rest (record { id = id; body = body }) before k c)
  where
    here : record { id = id; body = body } ≡ k → heard_body k.id (record { id = id; body = body } ∷ before) ≡ Some k.body
    here s =
        subst (λ (z : Heard). heard_body z.id (record { id = id; body = body } ∷ before) ≡ Some z.body) s
        (ap (λ b. cond b (Some body) (heard_body id before)) (eq_itself id_order id))

    later : Contains before k → heard_body k.id (record { id = id; body = body } ∷ before) ≡ Some k.body
    later r =
        let was : heard_body k.id before ≡ Some k.body = all k r in
        let apart : id_eq id k.id ≡ false =
        false_from_ne_true (id_eq id k.id)
        (λ same. true≢false (sym (ap is_some was) ∙ sym (heard_is_known k.id before) ∙ ap (λ z. is_heard z before) (sym ((id_order.decides id k.id).0 same)) ∙ e)) in
        ap (λ b. cond b (Some body) (heard_body k.id before)) apart ∙ was

pub known_told : (history : List Taken) (k : Heard) → Contains (known history) k → body_known history k.id ≡ Some k.body
known_told [] k c = absurd (in_nothing k c)
known_told (step ∷ past) k c =
    learnt_told (is_heard (id_of step.message) (known past)) (id_of step.message) (body_in step.message) (known past) refl (known_told past) k c
