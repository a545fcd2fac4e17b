-- The records of a shelf, with what a message brings, are those of the history whose last step is being taken.
use Rattle.std.proofs.Common.{◌≡◌, ℕ, false, ◌&&◌, List, ◌∷◌, Option, Some, is_some, refl, sym, ◌∙◌, ap, subst}
use Rattle.std.proofs.lemmas.Bool.{cond_both}
use Rattle.acc_base.specs.Faults.{or_else}
use Rattle.acc_stamp.specs.declared.stamps.TxnId.{TxnId}
use Rattle.acc_stamp.specs.Actor.{shard_of}
use Rattle.acc_stamp.specs.Stamp.{id_eq}
use Rattle.acc_stamp.proofs.Order.{id_order, eq-sym}
use Rattle.acc_topology.specs.Layout.{Layout}
use Rattle.acc_message.specs.declared.message.Message.{Message}
use Rattle.acc_message.specs.Fields.{id_of}
use Rattle.acc_message.specs.Taken.{Taken, body_in}
use Rattle.acc_message.specs.BallotRules.{stable_of, kept_outcome}
use Rattle.acc_message.specs.Opening.{is_opened, is_applied}
use Rattle.acc_message.specs.StoreRules.{replay}
use Rattle.acc_record.specs.declared.record.Record.{Record}
use Rattle.acc_record.specs.declared.shelf.Shelf.{Shelf}
use Rattle.acc_record.specs.Shelf.{record_at}
use Rattle.acc_record.specs.Stands.{StandsFor, record_with}
use Rattle.acc_record.specs.Steps.{record_from}
use Rattle.acc_opening.specs.Plan.{Lookup, settled_in, outcome_in, is_opened_in, is_applied_in, IsTaking}
use Rattle.acc_opening.specs.Lookup.{lookup}
use Rattle.acc_record.proofs.Apart.{concerns, or_else-none, settled_apart, outcome_apart}
use Rattle.acc_record.proofs.Resting.{unstable_closed}
use Rattle.acc_record.proofs.KeptFields.{kept_field}
use Rattle.acc_record.proofs.Index.{and_false}
use Rattle.acc_record.proofs.Records.{Begun, begun}
use Rattle.acc_execute.specs.Opened.{brought}

module _ (layout : Layout) (old : Shelf) (messages : List Message) (stands : StandsFor layout old (replay layout old.actor messages)) (m : Message)
    (begins : Record) (from : record_from (record_at old.records (id_of m)) (id_of m) (body_in m) ≡ Some begins) where
  abbrev past : List Taken
  past = replay layout old.actor messages

  abbrev x : TxnId
  x = id_of m

  abbrev shard : ℕ
  shard = shard_of old.actor

  abbrev own : Record
  own = brought begins m

  abbrev at : Lookup
  at = lookup old.records own

  module _ (sent : List Message) where
    abbrev step : Taken
    step = record { message = m; sent = sent }

    pub begun_here : Begun shard step past (record_at old.records x) begins
    begun_here = begun layout old.actor shard messages step (record_at old.records x) begins (stands.records x) from

    pub own_is : own ≡ brought (record_with shard past x begun_here.body) m
    own_is = ap (λ r. brought r m) begun_here.is

    apart_from : (y : TxnId) → id_eq y own.id ≡ false → concerns y m ≡ false
    apart_from y other =
        and_false (is_some (body_in m)) (id_eq x y) (eq-sym id_order x y ∙ ap (id_eq y) (sym (ap (λ (r : Record). r.id) own_is)) ∙ other)

    -- the record at y is the own one, or one that the message doesn't concern
    pub at_by : (P : Option Record → Type 0) (y : TxnId) → (x ≡ y → P (Some own)) → (concerns y m ≡ false → P (record_at old.records y)) → P (at y)
    at_by P y here there =
        cond_both (id_eq y own.id) (Some own) (record_at old.records y) P
        (λ same. here (sym ((id_order.decides y own.id).0 same ∙ ap (λ (r : Record). r.id) own_is)))
        (λ other. there (apart_from y other))

    stable_is : (y : TxnId) → settled_in (at y) ≡ stable_of (step ∷ past) y
    stable_is y =
        at_by (λ o. settled_in o ≡ stable_of (step ∷ past) y) y
        (λ e. subst (λ z. own.stable ≡ stable_of (step ∷ past) z) e (ap (λ (r : Record). r.stable) own_is))
        (λ apart.
        kept_field layout old messages stands settled_in (stable_of past y) y (λ body. refl) (λ u. sym u.stable)
        ∙ sym (ap (or_else (stable_of past y)) (settled_apart y m apart) ∙ or_else-none (stable_of past y)))

    outcome_is : (y : TxnId) → outcome_in (at y) ≡ kept_outcome (step ∷ past) y
    outcome_is y =
        at_by (λ o. outcome_in o ≡ kept_outcome (step ∷ past) y) y
        (λ e. subst (λ z. own.outcome ≡ kept_outcome (step ∷ past) z) e (ap (λ (r : Record). r.outcome) own_is))
        (λ apart.
        kept_field layout old messages stands outcome_in (kept_outcome past y) y (λ body. refl) (λ u. sym u.outcome)
        ∙ sym (ap (or_else (kept_outcome past y)) (outcome_apart y m apart) ∙ or_else-none (kept_outcome past y)))

    opened_is : (y : TxnId) → is_opened_in (at y) ≡ is_opened shard past y
    opened_is y =
        at_by (λ o. is_opened_in o ≡ is_opened shard past y) y
        (λ e. subst (λ z. own.opened ≡ is_opened shard past z) e (ap (λ (r : Record). r.opened) own_is))
        (λ apart. kept_field layout old messages stands is_opened_in (is_opened shard past y) y (λ body. refl) (λ u. sym (unstable_closed shard past y u.stable)))

    applied_is : (y : TxnId) → is_applied_in (at y) ≡ is_applied shard past y
    applied_is y =
        at_by (λ o. is_applied_in o ≡ is_applied shard past y) y
        (λ e. subst (λ z. own.applied ≡ is_applied shard past z) e (ap (λ (r : Record). r.applied) own_is))
        (λ apart.
        kept_field layout old messages stands is_applied_in (is_applied shard past y) y (λ body. refl)
        (λ u. sym (ap (λ b. b && is_some (kept_outcome past y)) (unstable_closed shard past y u.stable))))

    pub taking : IsTaking shard step past at
    taking = record { stable = stable_is; outcome = outcome_is; opened = opened_is; applied = applied_is }
