-- The own record is the one with which the step begins, with what the message brings.
use Rattle.std.proofs.Common.{◌≡◌, Bool, true, false, cond, List, None, Some, refl, sym, ap, ◌∙◌}
use Rattle.acc_base.specs.Faults.{or_else}
use Rattle.acc_stamp.specs.declared.stamps.Stamp.{Stamp}
use Rattle.acc_stamp.specs.declared.stamps.TxnId.{TxnId}
use Rattle.acc_stamp.specs.declared.stamps.Ballot.{Ballot}
use Rattle.acc_stamp.specs.declared.actors.Actor.{Actor}
use Rattle.acc_stamp.specs.Stamp.{id_eq}
use Rattle.acc_stamp.specs.Rising.{ballots_with}
use Rattle.acc_stamp.proofs.Order.{id_order, eq_itself}
use Rattle.acc_deps.specs.declared.shards.ShardDeps.{ShardDeps}
use Rattle.acc_deps.specs.declared.records.Settled.{Settled}
use Rattle.acc_txn.specs.declared.parts.BodyParts.{BodyParts}
use Rattle.acc_txn.specs.declared.outcome.Outcome.{Outcome}
use Rattle.acc_message.specs.declared.message.Message.TheVariants.{Stable, Apply}
use Rattle.acc_record.specs.declared.record.Record.{Record}
use Rattle.acc_record.proofs.Apart.{or_else-none}
use Rattle.acc_execute.specs.Own.{with_message}
use Rattle.acc_execute.specs.Owned.{with_settled, with_waiter, with_outcome}

either_way : {T : Type 0} (b : Bool) (v : T) → v ≡ cond b v v
either_way true v = refl
either_way false v = refl

module _ (r : Record) (from to : Actor) (x : TxnId) (b : Ballot) (body : BodyParts) (t : Stamp) (deps : List ShardDeps) where
  abbrev s : Settled
  s = record { t = t; deps = deps }

  same_id : true ≡ id_eq x x
  same_id = sym (eq_itself id_order x)

  pub stable_brings : with_waiter b (with_settled s r) ≡ with_message r (Stable from to x b body t deps)
  stable_brings =
      ap (λ o. record r { stable = or_else r.stable (Some s); waiters = cond r.opened r.waiters (ballots_with b r.waiters); outcome = o }) (sym (or_else-none r.outcome))
      ∙ ap (λ v. record r { stable = or_else r.stable (cond v (Some s) None); waiters = cond r.opened r.waiters (cond v (ballots_with b r.waiters) r.waiters); outcome = or_else r.outcome None }) same_id

  pub apply_brings : (outcome : Outcome) → with_outcome outcome (with_settled s r) ≡ with_message r (Apply from to x b body t deps outcome)
  apply_brings outcome =
      ap (λ w. record r { stable = or_else r.stable (Some s); waiters = w; outcome = or_else r.outcome (Some outcome) }) (either_way r.opened r.waiters)
      ∙ ap (λ v. record r { stable = or_else r.stable (cond v (Some s) None); waiters = cond r.opened r.waiters r.waiters; outcome = or_else r.outcome (cond v (Some outcome) None) }) same_id
