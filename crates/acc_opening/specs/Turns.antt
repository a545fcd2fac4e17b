-- Turns, and the changes that they are.
use Rattle.std.specs.Prelude.{◌≡◌, ◌⊎◌, Contains, Bool, not, ◌&&◌, List, Some, is_some, map}
use Rattle.std.specs.List.{list_any, AllByRecursion}
use Rattle.std.specs.Ordering.{ordering_then, is_lt}
use Rattle.std.specs.declared.cmp.Ordering.{Ordering}
use Rattle.acc_stamp.specs.declared.stamps.Stamp.{Stamp}
use Rattle.acc_stamp.specs.declared.stamps.TxnId.{TxnId}
use Rattle.acc_stamp.specs.Stamp.{stamp_cmp, stamp_eq, id_cmp, id_eq}
use Rattle.acc_stamp.specs.Rising.{IsRisingBy}
use Rattle.acc_deps.specs.declared.records.Settled.{Settled}
use Rattle.acc_message.specs.Opening.{Change}
use Rattle.acc_record.specs.declared.record.Record.{Record}
use Rattle.acc_opening.specs.Plan.{Lookup, settled_in}
use Rattle.acc_opening.specs.declared.turns.Turn.{Turn}

abbrev pub Key : Type 0
Key = Stamp × TxnId

-- the timestamp and the transaction
abbrev pub key_of : Turn → Key
key_of turn = (turn.t, turn.id)

abbrev pub key_cmp : Key → Key → Ordering
key_cmp a b = ordering_then (stamp_cmp a.0 b.0) (id_cmp a.1 b.1)

abbrev pub key_lt : Key → Key → Bool
key_lt a b = is_lt (key_cmp a b)

-- by the timestamp, and of equal timestamps by the transaction
abbrev pub turn_lt : Turn → Turn → Bool
turn_lt a b = key_lt (key_of a) (key_of b)

-- the new turns are the old ones with this one, unless one of the same transaction and timestamp was there
pub record HasTurn (turn : Turn) (old new : List Turn) : Type 0 where
  pub rises : IsRisingBy turn_lt new
  pub only : (a : Turn) → Contains new a → Contains old a ⊎ (a ≡ turn)
  pub kept : (a : Turn) → Contains old a → Contains new a
  pub there : (a : Turn) × Contains new a × (key_of a ≡ key_of turn)

abbrev pub change_of : Turn → Change
change_of turn = record { id = turn.id; opens = turn.opens; applies = turn.applies }

abbrev pub changes_in : List Turn → List Change
changes_in turns = map change_of turns

-- one of the turns applies a transaction with this timestamp
abbrev pub has_key : Stamp → TxnId → Turn → Bool
has_key t id turn = stamp_eq turn.t t && id_eq turn.id id

abbrev pub is_applied_at : List Turn → Stamp → TxnId → Bool
is_applied_at turns t id = list_any (λ turn. has_key t id turn && turn.applies) turns

-- the turn of a transaction that has this record
abbrev pub turn_of : Record → Stamp → TxnId → Turn
turn_of r t x = record { t = t; id = x; opens = not r.opened; applies = is_some r.outcome && not r.applied }

-- the turn is of a stable transaction, at its timestamp
pub record HasItsTime (at : Lookup) (turn : Turn) : Type 0 where
  pub settled : Settled
  pub stable : settled_in (at turn.id) ≡ Some settled
  pub t : turn.t ≡ settled.t

abbrev pub HaveTheirTimes : Lookup → List Turn → Type 0
HaveTheirTimes at turns = AllByRecursion (HasItsTime at) turns
