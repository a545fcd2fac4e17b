-- The records of a shelf that stands for a history, with the own record of a step, are those of a history whose last step is being
-- taken.
use Rattle.std.proofs.Common.{◌≡◌, ℕ, Bool, true, false, not, cond, ◌&&◌, List, [], ◌∷◌, Option, None, Some, is_some, sym, refl, ap, ◌∙◌, subst}
use Rattle.std.specs.Option.{option_map}
use Rattle.std.proofs.lemmas.Bool.{true≢false, and_right, and_parts}
use Rattle.acc_base.specs.Faults.{or_else}
use Rattle.acc_stamp.specs.declared.stamps.TxnId.{TxnId}
use Rattle.acc_stamp.specs.declared.actors.Actor.{Actor}
use Rattle.acc_stamp.specs.Stamp.{id_eq}
use Rattle.acc_stamp.proofs.Order.{id_order, eq-sym}
use Rattle.acc_topology.specs.Layout.{Layout}
use Rattle.acc_txn.specs.declared.parts.BodyParts.{BodyParts}
use Rattle.acc_message.specs.declared.message.Message.{Message}
use Rattle.acc_message.specs.Fields.{id_of}
use Rattle.acc_message.specs.Taken.{Taken, taking, known, heard_body, body_in, body_known}
use Rattle.acc_message.specs.BallotRules.{stable_of, kept_outcome, settled_in as settled_by, outcome_in as outcome_by}
use Rattle.acc_message.specs.Opening.{is_opened, is_applied}
use Rattle.acc_message.specs.StoreRules.{replay, stable_ballots, stable_ballots_in}
use Rattle.acc_record.specs.declared.record.Record.{Record}
use Rattle.acc_record.specs.Shelf.{Records, record_at}
use Rattle.acc_record.specs.Stands.{record_with, record_for}
use Rattle.acc_opening.specs.Plan.{Lookup, settled_in, outcome_in, is_opened_in, is_applied_in, IsTaking}
use Rattle.acc_opening.specs.Lookup.{lookup}
use Rattle.acc_record.proofs.Apart.{concerns, or_else-none, settled_apart, outcome_apart, ballots_apart, known_apart}
use Rattle.acc_record.proofs.Resting.{IsUntouched, untouched, unstable_closed}
use Rattle.acc_record.proofs.Records.{Begun, begun, known_stays}
use Rattle.acc_opening.specs.History.{AreOf}
use Rattle.acc_execute.specs.Own.{with_message, IsOwn}

module _ (layout : Layout) (actor : Actor) (shard : ℕ) (messages : List Message) (m : Message) (records : Records) (own : Record) (stand : (x : TxnId) → record_at records x ≡ record_for shard (replay layout actor messages) x) (o : IsOwn records m own) where
  start : Begun shard (record { message = m; sent = [] }) (replay layout actor messages) (record_at records (id_of m)) o.begins
  start = begun layout actor shard messages (record { message = m; sent = [] }) (record_at records (id_of m)) o.begins (stand (id_of m)) o.from

  own_is : own ≡ with_message (record_with shard (replay layout actor messages) (id_of m) start.body) m
  own_is = o.is ∙ ap (λ r. with_message r m) start.is

  own_id : own.id ≡ id_of m
  own_id = ap (λ (r : Record). r.id) own_is

  here : (x : TxnId) → id_eq x own.id ≡ true → id_of m ≡ x
  here x e = sym own_id ∙ sym ((id_order.decides x own.id).0 e)

  at_own : (x : TxnId) → id_eq x own.id ≡ true → lookup records own x ≡ Some own
  at_own x e = ap (λ b. cond b (Some own) (record_at records x)) e

  at_other : (x : TxnId) → id_eq x own.id ≡ false → lookup records own x ≡ record_for shard (replay layout actor messages) x
  at_other x e = ap (λ b. cond b (Some own) (record_at records x)) e ∙ stand x

  -- another transaction is not that of the message
  apart : (x : TxnId) → id_eq x own.id ≡ false → concerns x m ≡ false
  apart x e = and_right (is_some (body_in m)) (id_eq (id_of m) x) (ap (λ z. id_eq z x) (sym own_id) ∙ eq-sym id_order own.id x ∙ e)

  -- ---- one by one

  stable_other : (x : TxnId) (b : Option BodyParts) → body_known (replay layout actor messages) x ≡ b
      → settled_in (option_map (record_with shard (replay layout actor messages) x) b) ≡ stable_of (replay layout actor messages) x
  stable_other x None e = sym (untouched layout actor messages x e).stable
  stable_other x (Some body) e = refl

  outcome_other : (x : TxnId) (b : Option BodyParts) → body_known (replay layout actor messages) x ≡ b
      → outcome_in (option_map (record_with shard (replay layout actor messages) x) b) ≡ kept_outcome (replay layout actor messages) x
  outcome_other x None e = sym (untouched layout actor messages x e).outcome
  outcome_other x (Some body) e = refl

  unopened : (x : TxnId) → body_known (replay layout actor messages) x ≡ None → is_opened shard (replay layout actor messages) x ≡ false
  unopened x e = unstable_closed shard (replay layout actor messages) x (untouched layout actor messages x e).stable

  opened_other : (x : TxnId) (b : Option BodyParts) → body_known (replay layout actor messages) x ≡ b
      → is_opened_in (option_map (record_with shard (replay layout actor messages) x) b) ≡ is_opened shard (replay layout actor messages) x
  opened_other x None e = sym (unopened x e)
  opened_other x (Some body) e = refl

  applied_other : (x : TxnId) (b : Option BodyParts) → body_known (replay layout actor messages) x ≡ b
      → is_applied_in (option_map (record_with shard (replay layout actor messages) x) b) ≡ is_applied shard (replay layout actor messages) x
  applied_other x None e = sym (ap (λ b. b && is_some (kept_outcome (replay layout actor messages) x)) (unopened x e))
  applied_other x (Some body) e = refl

  stable_at : (x : TxnId) (b : Bool) → id_eq x own.id ≡ b → settled_in (lookup records own x) ≡ stable_of (taking m (replay layout actor messages)) x
  stable_at x true e =
      ap settled_in (at_own x e) ∙ ap (λ (r : Record). r.stable) own_is
      ∙ ap (λ z. or_else (stable_of (replay layout actor messages) z) (settled_by z m)) (here x e)
  stable_at x false e =
      ap settled_in (at_other x e) ∙ stable_other x (body_known (replay layout actor messages) x) refl
      ∙ sym (ap (or_else (stable_of (replay layout actor messages) x)) (settled_apart x m (apart x e)) ∙ or_else-none (stable_of (replay layout actor messages) x))

  outcome_at : (x : TxnId) (b : Bool) → id_eq x own.id ≡ b → outcome_in (lookup records own x) ≡ kept_outcome (taking m (replay layout actor messages)) x
  outcome_at x true e =
      ap outcome_in (at_own x e) ∙ ap (λ (r : Record). r.outcome) own_is
      ∙ ap (λ z. or_else (kept_outcome (replay layout actor messages) z) (outcome_by z m)) (here x e)
  outcome_at x false e =
      ap outcome_in (at_other x e) ∙ outcome_other x (body_known (replay layout actor messages) x) refl
      ∙ sym (ap (or_else (kept_outcome (replay layout actor messages) x)) (outcome_apart x m (apart x e)) ∙ or_else-none (kept_outcome (replay layout actor messages) x))

  opened_at : (x : TxnId) (b : Bool) → id_eq x own.id ≡ b → is_opened_in (lookup records own x) ≡ is_opened shard (replay layout actor messages) x
  opened_at x true e = ap is_opened_in (at_own x e) ∙ ap (λ (r : Record). r.opened) own_is ∙ ap (is_opened shard (replay layout actor messages)) (here x e)
  opened_at x false e = ap is_opened_in (at_other x e) ∙ opened_other x (body_known (replay layout actor messages) x) refl

  applied_at : (x : TxnId) (b : Bool) → id_eq x own.id ≡ b → is_applied_in (lookup records own x) ≡ is_applied shard (replay layout actor messages) x
  applied_at x true e = ap is_applied_in (at_own x e) ∙ ap (λ (r : Record). r.applied) own_is ∙ ap (is_applied shard (replay layout actor messages)) (here x e)
  applied_at x false e = ap is_applied_in (at_other x e) ∙ applied_other x (body_known (replay layout actor messages) x) refl

  -- what is opened and applied is planned by these records
  pub is_taking : IsTaking shard (record { message = m; sent = [] }) (replay layout actor messages) (lookup records own)
  is_taking = record {
    stable = λ x. stable_at x (id_eq x own.id) refl;
    outcome = λ x. outcome_at x (id_eq x own.id) refl;
    opened = λ x. opened_at x (id_eq x own.id) refl;
    applied = λ x. applied_at x (id_eq x own.id) refl;
  }

  -- ---- what is sent

  some_same : {X : Type 0} (x y : X) → Some x ≡ Some y → x ≡ y
  some_same x y e = cc

  body_other : (x : TxnId) (r : Record) (b : Option BodyParts) → body_known (replay layout actor messages) x ≡ b
      → option_map (record_with shard (replay layout actor messages) x) b ≡ Some r → body_known (replay layout actor messages) x ≡ Some r.body
  body_other x r None e there = absurd cc
  body_other x r (Some body) e there = e ∙ ap (λ (q : Record). Some q.body) (some_same (record_with shard (replay layout actor messages) x body) r there)

  body_at : (x : TxnId) (r : Record) → lookup records own x ≡ Some r → (b : Bool) → id_eq x own.id ≡ b
      → heard_body x (known (taking m (replay layout actor messages))) ≡ Some r.body
  body_at x r there true e =
      let same : own ≡ r = some_same own r (sym (at_own x e) ∙ there) in
      ap (λ z. heard_body z (known (taking m (replay layout actor messages)))) (sym (here x e)) ∙ start.known
      ∙ ap (λ (q : Record). Some q.body) (sym own_is ∙ same)
  body_at x r there false e =
      known_stays (record { message = m; sent = [] }) (replay layout actor messages) x r.body
      (body_other x r (body_known (replay layout actor messages) x) refl (sym (at_other x e) ∙ there))

  waiters_other : (x : TxnId) (r : Record) (b : Option BodyParts) → option_map (record_with shard (replay layout actor messages) x) b ≡ Some r
      → r.opened ≡ false → r.waiters ≡ stable_ballots (replay layout actor messages) x
  waiters_other x r None there closed = absurd cc
  waiters_other x r (Some body) there closed =
      let same : record_with shard (replay layout actor messages) x body ≡ r = some_same (record_with shard (replay layout actor messages) x body) r there in
      ap (λ (q : Record). q.waiters) (sym same)
      ∙ ap (λ b. cond b [] (stable_ballots (replay layout actor messages) x)) (ap (λ (q : Record). q.opened) same ∙ closed)

  waiters_at : (x : TxnId) (r : Record) → lookup records own x ≡ Some r → r.opened ≡ false → (b : Bool) → id_eq x own.id ≡ b
      → r.waiters ≡ stable_ballots (taking m (replay layout actor messages)) x
  waiters_at x r there closed true e =
      let same : own ≡ r = some_same own r (sym (at_own x e) ∙ there) in
      let shut : is_opened shard (replay layout actor messages) (id_of m) ≡ false = ap (λ (q : Record). q.opened) (sym own_is ∙ same) ∙ closed in
      ap (λ (q : Record). q.waiters) (sym same ∙ own_is)
      ∙ ap (λ b. cond b (cond b [] (stable_ballots (replay layout actor messages) (id_of m))) (stable_ballots_in (id_of m) m (cond b [] (stable_ballots (replay layout actor messages) (id_of m))))) shut
      ∙ ap (λ z. stable_ballots_in z m (stable_ballots (replay layout actor messages) z)) (here x e)
  waiters_at x r there closed false e =
      waiters_other x r (body_known (replay layout actor messages) x) (sym (at_other x e) ∙ there) closed
      ∙ sym (ballots_apart x m (stable_ballots (replay layout actor messages) x) (apart x e))

  outcome_kept : (x : TxnId) (r : Record) → lookup records own x ≡ Some r → r.outcome ≡ kept_outcome (taking m (replay layout actor messages)) x
  outcome_kept x r there = sym (ap outcome_in there) ∙ is_taking.outcome x

  -- what is sent and written is read from these records
  pub are_of : AreOf (taking m (replay layout actor messages)) (lookup records own)
  are_of = record {
    body = λ x r there. body_at x r there (id_eq x own.id) refl;
    outcome = outcome_kept;
    waiters = λ x r there closed. waiters_at x r there closed (id_eq x own.id) refl;
  }
