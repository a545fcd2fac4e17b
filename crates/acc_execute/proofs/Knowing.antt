-- The records of a shelf that stands for a history, with the own record of a step, are such that the step can be planned.
use Rattle.std.proofs.Common.{◌≡◌, ℕ, Bool, true, false, cond, ◌&&◌, List, [], ◌∷◌, Option, None, Some, is_some, sym, refl, ap, ◌∙◌, subst}
use Rattle.std.specs.Option.{option_map}
use Rattle.std.proofs.lemmas.Bool.{true≢false}
use Rattle.acc_base.specs.Faults.{or_else}
use Rattle.acc_stamp.specs.declared.stamps.TxnId.{TxnId}
use Rattle.acc_stamp.specs.declared.actors.Actor.{Actor}
use Rattle.acc_topology.specs.Layout.{Layout}
use Rattle.acc_deps.specs.declared.records.Settled.{Settled}
use Rattle.acc_txn.specs.declared.parts.BodyParts.{BodyParts}
use Rattle.acc_message.specs.declared.message.Message.{Message}
use Rattle.acc_message.specs.Fields.{id_of}
use Rattle.acc_message.specs.Taken.{body_in, body_known}
use Rattle.acc_message.specs.BallotRules.{stable_of, kept_outcome, settled_in as settled_by}
use Rattle.acc_message.specs.Opening.{is_opened}
use Rattle.acc_message.specs.StoreRules.{replay}
use Rattle.acc_record.specs.declared.record.Record.{Record}
use Rattle.acc_record.specs.Shelf.{Records, Waits, record_at}
use Rattle.acc_record.specs.Stands.{record_with, record_for}
use Rattle.acc_record.specs.Steps.{record_from}
use Rattle.acc_record.specs.Waits.{AreWaits}
use Rattle.acc_opening.specs.Known.{IsKnown}
use Rattle.acc_record.proofs.Resting.{untouched, unstable_closed}
use Rattle.acc_execute.specs.Own.{with_message, IsOwn}

same_some : {X : Type 0} (x y : X) → Some x ≡ Some y → x ≡ y
same_some x y e = cc

module _ (layout : Layout) (actor : Actor) (shard : ℕ) (messages : List Message) (m : Message) (records : Records) (own : Record) (stand : (x : TxnId) → record_at records x ≡ record_for shard (replay layout actor messages) x) (o : IsOwn records m own) where
  -- a record that is there is what the rules say
  record_is : (x : TxnId) (r : Record) (b : Option BodyParts) → option_map (record_with shard (replay layout actor messages) x) b ≡ Some r
      → (body : BodyParts) × (r ≡ record_with shard (replay layout actor messages) x body)
  record_is x r None e = absurd cc
  record_is x r (Some body) e = (body, sym (same_some (record_with shard (replay layout actor messages) x body) r e))

  there_is : (x : TxnId) (r : Record) → record_at records x ≡ Some r → (body : BodyParts) × (r ≡ record_with shard (replay layout actor messages) x body)
  there_is x r there = record_is x r (body_known (replay layout actor messages) x) (sym (stand x) ∙ there)

  settled_or : (x : TxnId) (s : Option Settled) → stable_of (replay layout actor messages) x ≡ s → is_opened shard (replay layout actor messages) x ≡ true → is_some s ≡ true
  settled_or x None e h = absurd (true≢false (sym h ∙ unstable_closed shard (replay layout actor messages) x e))
  settled_or x (Some s) e h = refl

  opened_stable : (x : TxnId) (r : Record) → record_at records x ≡ Some r → r.opened ≡ true → is_some r.stable ≡ true
  opened_stable x r there h =
      let k = there_is x r there in
      ap (λ (q : Record). is_some q.stable) k.1
      ∙ settled_or x (stable_of (replay layout actor messages) x) refl (ap (λ (q : Record). q.opened) (sym k.1) ∙ h)

  applied_with : (x : TxnId) (r : Record) → record_at records x ≡ Some r → r.applied ≡ (r.opened && is_some r.outcome)
  applied_with x r there = let k = there_is x r there in subst (λ (q : Record). q.applied ≡ (q.opened && is_some q.outcome)) (sym k.1) refl

  -- ---- the own record

  begins_id : (before : Option Record) → record_at records (id_of m) ≡ before → (b : Option BodyParts) → record_from before (id_of m) b ≡ Some o.begins → o.begins.id ≡ id_of m
  begins_id None e None from = absurd cc
  begins_id None e (Some body) from = ap (λ (q : Record). q.id) (sym (same_some _ o.begins from))
  begins_id (Some r) e b from =
      let k = there_is (id_of m) r e in
      ap (λ (q : Record). q.id) (sym (same_some r o.begins from)) ∙ ap (λ (q : Record). q.id) k.1

  own_named : own.id ≡ id_of m
  own_named = ap (λ (q : Record). q.id) o.is ∙ begins_id (record_at records (id_of m)) refl (body_in m) o.from

  begins_kept : (r : Record) → record_at records own.id ≡ Some r → o.begins ≡ r
  begins_kept r there =
      let here : record_at records (id_of m) ≡ Some r = ap (record_at records) (sym own_named) ∙ there in
      sym (same_some r o.begins (sym (ap (λ z. record_from z (id_of m) (body_in m)) here) ∙ o.from))

  begins_new : (b : Option BodyParts) → record_from None (id_of m) b ≡ Some o.begins → (o.begins.opened ≡ false) × (o.begins.applied ≡ false)
  begins_new None from = absurd cc
  begins_new (Some body) from =
      let k = same_some _ o.begins from in
      (ap (λ (q : Record). q.opened) (sym k), ap (λ (q : Record). q.applied) (sym k))

  new_parts : record_at records own.id ≡ None → (o.begins.opened ≡ false) × (o.begins.applied ≡ false)
  new_parts none =
      let here : record_at records (id_of m) ≡ None = ap (record_at records) (sym own_named) ∙ none in
      begins_new (body_in m) (sym (ap (λ z. record_from z (id_of m) (body_in m)) here) ∙ o.from)

  pub is_known : (waits : Waits) → AreWaits shard (record_at records) waits → is_some own.stable ≡ true → IsKnown shard records own waits
  is_known waits waiting stable = record {
    waiting = waiting;
    opened = opened_stable;
    applied = applied_with;
    stable = stable;
    kept_opened = λ r there. ap (λ (q : Record). q.opened) o.is ∙ ap (λ (q : Record). q.opened) (begins_kept r there);
    kept_applied = λ r there. ap (λ (q : Record). q.applied) o.is ∙ ap (λ (q : Record). q.applied) (begins_kept r there);
    kept_stable = λ r s there settled.
        ap (λ (q : Record). q.stable) o.is
        ∙ ap (λ z. or_else z (settled_by (id_of m) m)) (ap (λ (q : Record). q.stable) (begins_kept r there) ∙ settled);
    new_opened = λ none. ap (λ (q : Record). q.opened) o.is ∙ (new_parts none).0;
    new_applied = λ none. ap (λ (q : Record). q.applied) o.is ∙ (new_parts none).1;
  }
