-- The record of a step's transaction is the one that the rules give, before the step and after it.
use Rattle.std.proofs.Common.{◌≡◌, ℕ, Bool, true, false, List, ◌∷◌, Option, None, Some, is_some, refl, sym, ◌∙◌, ap, subst}
use Rattle.std.specs.Option.{option_map}
use Rattle.std.proofs.lemmas.Bool.{and_parts}
use Rattle.acc_base.specs.Faults.{or_else}
use Rattle.acc_stamp.specs.declared.stamps.TxnId.{TxnId}
use Rattle.acc_stamp.specs.Stamp.{id_eq}
use Rattle.acc_stamp.specs.declared.actors.Actor.{Actor}
use Rattle.acc_stamp.proofs.Order.{id_order}
use Rattle.acc_topology.specs.Layout.{Layout}
use Rattle.acc_txn.specs.declared.parts.BodyParts.{BodyParts}
use Rattle.acc_message.specs.declared.message.Message.{Message}
use Rattle.acc_message.specs.Fields.{id_of}
use Rattle.acc_message.specs.Taken.{Taken, body_in, body_known}
use Rattle.acc_message.specs.VoteRule.{Vote, first_vote, vote_of}
use Rattle.acc_message.specs.Opening.{may_open}
use Rattle.acc_message.specs.StoreRules.{replay}
use Rattle.acc_record.specs.declared.record.Record.{Record}
use Rattle.acc_record.specs.Stands.{record_with, record_for, stamp_of_vote, deps_of_vote}
use Rattle.acc_record.specs.Steps.{fresh, record_from, deps_kept, record_after}
use Rattle.acc_actor_laws.proofs.Standing.{not_none}
use Rattle.acc_actor_laws.proofs.OpeningFacts.{some_is}
use Rattle.acc_record.proofs.Apart.{concerns, known_apart, known_here}
use Rattle.acc_record.proofs.Resting.{StaysAt, same_record, fresh_record}
use Rattle.acc_record.proofs.Quiet.{stable_stays, outcome_stays, opened_stays, applied_stays, waiters_stay}

-- ---- the step's own transaction

vote_then : (o p : Option Vote) → or_else (stamp_of_vote o) (stamp_of_vote p) ≡ stamp_of_vote (or_else o p)
vote_then None p = refl
vote_then (Some v) p = refl

deps_then : (o p : Option Vote) → deps_kept (stamp_of_vote o) (deps_of_vote o) p ≡ deps_of_vote (or_else o p)
deps_then None None = refl
deps_then None (Some p) = refl
deps_then (Some v) p = refl

pub record_next : (shard : ℕ) (step : Taken) (past : List Taken) (body : BodyParts) → may_open step.message ≡ false
    → record_after (record_with shard past (id_of step.message) body) step.message step.sent ≡ record_with shard (step ∷ past) (id_of step.message) body
record_next shard step past body quiet =
    let x : TxnId = id_of step.message in
    let given : Option Vote = first_vote x step.sent in
    same_record x body _ _ _ _ _ _ _ _ _ _ _ _ _ _ _ _ _ _ _ _
    (vote_then (vote_of past x) given) (deps_then (vote_of past x) given) refl refl refl (sym (stable_stays shard step past quiet x))
    (sym (waiters_stay shard step past quiet x)) (sym (opened_stays shard step past quiet x)) (sym (outcome_stays shard step past quiet x))
    (sym (applied_stays shard step past quiet x))

-- what there was, and the record with which the step begins
pub data Began (shard : ℕ) (past : List Taken) (x : TxnId) (body : BodyParts) : Option Record → Type 0 where
  Known : body_known past x ≡ Some body → Began shard past x body (Some (record_with shard past x body))
  Unknown : body_known past x ≡ None → Began shard past x body None

pub record Begun (shard : ℕ) (step : Taken) (past : List Taken) (before : Option Record) (begins : Record) : Type 0 where
  pub body : BodyParts
  pub known : body_known (step ∷ past) (id_of step.message) ≡ Some body
  pub is : begins ≡ record_with shard past (id_of step.message) body
  pub began : Began shard past (id_of step.message) body before

begun_by : (layout : Layout) (own : Actor) (shard : ℕ) (messages : List Message) (step : Taken) (before : Option Record) (begins : Record) (o b : Option BodyParts)
    → body_known (replay layout own messages) (id_of step.message) ≡ o → body_in step.message ≡ b
    → before ≡ option_map (record_with shard (replay layout own messages) (id_of step.message)) o
    → record_from before (id_of step.message) b ≡ Some begins → Begun shard step (replay layout own messages) before begins
begun_by layout own shard messages step before begins (Some body) b is brings there from =
    let past : List Taken = replay layout own messages in
    let x : TxnId = id_of step.message in
    record {
      body = body;
      known = known_here step past ∙ ap (λ o. or_else o (body_in step.message)) is;
      is = some_is begins (record_with shard past x body) (sym from ∙ ap (λ z. record_from z x b) there);
      began = subst (Began shard past x body) (sym there) (Known is);
    }
begun_by layout own shard messages step before begins None (Some body) is brings there from =
    let past : List Taken = replay layout own messages in
    let x : TxnId = id_of step.message in
    record {
      body = body;
      known = known_here step past ∙ ap (λ o. or_else o (body_in step.message)) is ∙ brings;
      is = some_is begins (fresh x body) (sym from ∙ ap (λ z. record_from z x (Some body)) there) ∙ sym (fresh_record layout own shard messages x body is);
      began = subst (Began shard past x body) (sym there) (Unknown is);
    }
begun_by layout own shard messages step before begins None None is brings there from =
    absurd (not_none begins (sym (ap (λ z. record_from z (id_of step.message) None) there) ∙ from))

pub begun : (layout : Layout) (own : Actor) (shard : ℕ) (messages : List Message) (step : Taken) (before : Option Record) (begins : Record)
    → before ≡ record_for shard (replay layout own messages) (id_of step.message)
    → record_from before (id_of step.message) (body_in step.message) ≡ Some begins → Begun shard step (replay layout own messages) before begins
begun layout own shard messages step before begins there from =
    begun_by layout own shard messages step before begins (body_known (replay layout own messages) (id_of step.message)) (body_in step.message) refl refl there from

-- ---- every other one

map_alike : {A B : Type 0} (f g : A → B) (o : Option A) → ((a : A) → f a ≡ g a) → option_map f o ≡ option_map g o
map_alike f g None same = refl
map_alike f g (Some a) same = ap Some (same a)

pub record_elsewhere : (shard : ℕ) (step : Taken) (past : List Taken) (x : TxnId) → may_open step.message ≡ false → StaysAt step past x
    → record_for shard (step ∷ past) x ≡ record_for shard past x
record_elsewhere shard step past x quiet s =
    ap (option_map (record_with shard (step ∷ past) x)) s.known
    ∙ map_alike (record_with shard (step ∷ past) x) (record_with shard past x) (body_known past x)
    (λ body. same_record x body _ _ _ _ _ _ _ _ _ _ _ _ _ _ _ _ _ _ _ _
    (ap stamp_of_vote s.vote) (ap deps_of_vote s.vote) s.promise s.accepted s.committed s.stable
    (waiters_stay shard step past quiet x) (opened_stays shard step past quiet x) s.outcome (applied_stays shard step past quiet x))

-- a body that is known stays
known_stays_by : (step : Taken) (past : List Taken) (x : TxnId) (body : BodyParts) (b : Bool) → concerns x step.message ≡ b
    → body_known past x ≡ Some body → body_known (step ∷ past) x ≡ Some body
known_stays_by step past x body false apart e = known_apart step past x apart ∙ e
known_stays_by step past x body true about e =
    let same : id_of step.message ≡ x = (id_order.decides (id_of step.message) x).0 (and_parts (is_some (body_in step.message)) (id_eq (id_of step.message) x) about).1 in
    sym (ap (body_known (step ∷ past)) same)
    ∙ known_here step past
    ∙ ap (λ o. or_else o (body_in step.message)) (ap (body_known past) same ∙ e)

pub known_stays : (step : Taken) (past : List Taken) (x : TxnId) (body : BodyParts) → body_known past x ≡ Some body
    → body_known (step ∷ past) x ≡ Some body
known_stays step past x body e = known_stays_by step past x body (concerns x step.message) refl e
