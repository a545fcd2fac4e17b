-- The record that a step gives its own transaction before anything is opened or applied.
use Rattle.std.specs.Prelude.{◌≡◌, cond, Option, Some}
use Rattle.acc_base.specs.Faults.{or_else}
use Rattle.acc_message.specs.declared.message.Message.{Message}
use Rattle.acc_message.specs.Fields.{id_of}
use Rattle.acc_message.specs.Taken.{body_in}
use Rattle.acc_message.specs.BallotRules.{settled_in, outcome_in}
use Rattle.acc_message.specs.StoreRules.{stable_ballots_in}
use Rattle.acc_record.specs.declared.record.Record.{Record}
use Rattle.acc_record.specs.Shelf.{Records, record_at}
use Rattle.acc_record.specs.Steps.{record_from}

-- the record with which the step begins, with what the message brings
abbrev pub with_message : Record → Message → Record
with_message r m =
    record r {
      stable = or_else r.stable (settled_in (id_of m) m);
      waiters = cond r.opened r.waiters (stable_ballots_in (id_of m) m r.waiters);
      outcome = or_else r.outcome (outcome_in (id_of m) m);
    }

-- the record is that of the message's transaction
pub record IsOwn (records : Records) (m : Message) (own : Record) : Type 0 where
  pub begins : Record
  pub from : record_from (record_at records (id_of m)) (id_of m) (body_in m) ≡ Some begins
  pub is : own ≡ with_message begins m
