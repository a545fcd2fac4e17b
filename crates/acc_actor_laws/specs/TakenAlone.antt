-- What of a store depends on the messages that it took alone.
use Rattle.std.specs.Prelude.{◌≡◌, ℕ, List, map}
use Rattle.acc_stamp.specs.declared.stamps.TxnId.{TxnId}
use Rattle.acc_topology.specs.Layout.{Layout}
use Rattle.acc_value.specs.declared.key.Key.{Key}
use Rattle.acc_message.specs.declared.message.Message.{Message}
use Rattle.acc_message.specs.Taken.{Taken, known}
use Rattle.acc_message.specs.BallotRules.{stable_of, kept_outcome}
use Rattle.acc_message.specs.Opening.{opened_of, cells_at}
use Rattle.acc_message.specs.StoreRules.{stable_ballots, waiters_of}

-- the messages that a store took
abbrev pub messages_taken : List Taken → List Message
messages_taken past = map (λ (step : Taken). step.message) past

-- two histories agree in the known transactions, the stable records and the kept outcomes, the waiters, and in what is opened
-- and in the cells
pub record AgreeInParts (one other : List Taken) : Type 0 where
  pub known_is : known one ≡ known other
  pub stable_is : (x : TxnId) → stable_of one x ≡ stable_of other x
  pub outcome_is : (x : TxnId) → kept_outcome one x ≡ kept_outcome other x
  pub ballots_are : (x : TxnId) → stable_ballots one x ≡ stable_ballots other x
  pub opened_is : (shard : ℕ) → opened_of shard one ≡ opened_of shard other
  pub waiters_are : (shard : ℕ) (x : TxnId) → waiters_of shard one x ≡ waiters_of shard other x
  pub cells_are : (layout : Layout) (shard : ℕ) → cells_at layout shard one ≡ cells_at layout shard other
