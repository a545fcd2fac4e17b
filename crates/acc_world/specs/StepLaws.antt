-- What one more step of a store brings: a body, newly opened and newly applied transactions, and writes of keys.
use Rattle.std.specs.Prelude.{◌≡◌, ℕ, Bool, true, false, not, cond, ◌&&◌, List, ◌∷◌, Option, None, Some, IsTrue, is_some}
use Rattle.acc_stamp.specs.declared.stamps.TxnId.{TxnId}
use Rattle.acc_stamp.specs.Stamp.{id_eq}
use Rattle.acc_topology.specs.Layout.{Layout}
use Rattle.acc_deps.specs.declared.records.Settled.{Settled}
use Rattle.acc_value.specs.declared.key.Key.{Key}
use Rattle.acc_value.specs.declared.value.Value.{Value}
use Rattle.acc_value.specs.Pairs.{find}
use Rattle.acc_txn.specs.declared.parts.BodyParts.{BodyParts}
use Rattle.acc_message.specs.declared.message.Message.{Message}
use Rattle.acc_message.specs.Fields.{id_of}
use Rattle.acc_message.specs.Taken.{Taken, body_in}
use Rattle.acc_message.specs.BallotRules.{stable_of, kept_outcome}
use Rattle.acc_message.specs.Opening.{standing_lt, is_applied, writes_in}

-- the body that a message brings, where it is about x
abbrev pub body_about : TxnId → Message → Option BodyParts
body_about x m = cond (id_eq (id_of m) x) (body_in m) None

-- the step applies x
abbrev pub is_newly_applied : ℕ → Taken → List Taken → TxnId → Bool
is_newly_applied shard step past x = is_applied shard (step ∷ past) x && not (is_applied shard past x)

-- what the kept outcome of x writes to a key of the shard, where it writes it
abbrev pub write_of : Layout → ℕ → List Taken → TxnId → Key → Option (Option Value)
write_of layout shard history x key = find (writes_in layout shard (kept_outcome history x)) key

-- Of what the step applies, x writes the key last: it writes this cell, and nothing that writes the key too comes after it, by
-- the timestamp, and of equal timestamps by the id.
pub record WritesLast (layout : Layout) (shard : ℕ) (step : Taken) (past : List Taken) (key : Key) (x : TxnId) (cell : Option Value) : Type 0 where
  pub settled : Settled
  pub settled_is : stable_of (step ∷ past) x ≡ Some settled
  pub applies : is_newly_applied shard step past x ≡ true
  pub writes : write_of layout shard (step ∷ past) x key ≡ Some cell
  pub last :
      (y : TxnId) (theirs : Settled) → is_newly_applied shard step past y ≡ true → stable_of (step ∷ past) y ≡ Some theirs
      → IsTrue (is_some (write_of layout shard (step ∷ past) y key))
      → standing_lt (record { id = x; settled = settled }) (record { id = y; settled = theirs }) ≡ false
