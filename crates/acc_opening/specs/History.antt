-- When the records of a step are those of a history.
use Rattle.std.specs.Prelude.{◌≡◌, false, List, Some}
use Rattle.acc_stamp.specs.declared.stamps.TxnId.{TxnId}
use Rattle.acc_message.specs.Taken.{Taken, known, heard_body}
use Rattle.acc_message.specs.BallotRules.{kept_outcome}
use Rattle.acc_message.specs.StoreRules.{stable_ballots}
use Rattle.acc_record.specs.declared.record.Record.{Record}
use Rattle.acc_opening.specs.Plan.{Lookup}

-- the records are those of the history with the message of the step: the body heard first, the outcome that is kept, and, as
-- long as the transaction isn't opened, the ballots of its Stables
pub record AreOf (now : List Taken) (at : Lookup) : Type 0 where
  pub body : (x : TxnId) (r : Record) → at x ≡ Some r → heard_body x (known now) ≡ Some r.body
  pub outcome : (x : TxnId) (r : Record) → at x ≡ Some r → r.outcome ≡ kept_outcome now x
  pub waiters : (x : TxnId) (r : Record) → at x ≡ Some r → r.opened ≡ false → r.waiters ≡ stable_ballots now x
