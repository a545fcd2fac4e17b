-- What a step that takes a Stable or an Apply changes on a shelf, the cells left out.
use Rattle.std.specs.Prelude.{◌≡◌, max, cond, ◌||◌, List, [], Some}
use Rattle.std.specs.Option.{option_map}
use Rattle.acc_base.specs.Faults.{or_else}
use Rattle.acc_stamp.specs.declared.stamps.TxnId.{TxnId}
use Rattle.acc_stamp.specs.Actor.{shard_of}
use Rattle.acc_topology.specs.Layout.{Layout}
use Rattle.acc_message.specs.declared.message.Message.{Message}
use Rattle.acc_message.specs.Fields.{id_of, top_of}
use Rattle.acc_message.specs.Taken.{body_in}
use Rattle.acc_message.specs.BallotRules.{settled_in, outcome_in}
use Rattle.acc_message.specs.Opening.{Change}
use Rattle.acc_message.specs.StoreRules.{stable_ballots_in}
use Rattle.acc_actor_laws.specs.OpeningOrder.{opens_in, applies_in}
use Rattle.acc_record.specs.declared.record.Record.{Record}
use Rattle.acc_record.specs.declared.shelf.Shelf.{Shelf}
use Rattle.acc_record.specs.Shelf.{record_at}
use Rattle.acc_record.specs.Waits.{AreWaits}
use Rattle.acc_record.specs.Steps.{record_from, NotesTold}
use Rattle.acc_opening.specs.Lookup.{lookup}

-- the record with what the message brings: a stable record and an outcome, where there is none, and the ballot of a Stable, as
-- long as the transaction isn't opened
abbrev pub brought : Record → Message → Record
brought r m =
    record r {
      stable = or_else r.stable (settled_in (id_of m) m);
      outcome = or_else r.outcome (outcome_in (id_of m) m);
      waiters = cond r.opened r.waiters (stable_ballots_in (id_of m) m r.waiters);
    }

-- the record of a transaction with what the changes open and apply; when it is opened nobody waits any more
abbrev pub executed : List Change → TxnId → Record → Record
executed changes x r =
    record r {
      opened = r.opened || opens_in x changes;
      applied = r.applied || applies_in x changes;
      waiters = cond (opens_in x changes) [] r.waiters;
    }

pub record OpeningStep (layout : Layout) (old new : Shelf) (m : Message) (changes : List Change) : Type 0 where
  pub actor : new.actor ≡ old.actor
  pub begins : Record
  pub from : record_from (record_at old.records (id_of m)) (id_of m) (body_in m) ≡ Some begins
  pub records :
      (y : TxnId) → record_at new.records y ≡ option_map (executed changes y) (lookup old.records (brought begins m) y)
  pub notes :
      NotesTold layout (shard_of old.actor) m (record_at old.records (id_of m)) (brought begins m) old.index new.index
  pub waits : AreWaits (shard_of old.actor) (record_at new.records) new.waits
  pub greatest : new.greatest ≡ max (top_of m) old.greatest
