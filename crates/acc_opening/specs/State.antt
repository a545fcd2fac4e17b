-- The plan of a step while it is made.
use Rattle.std.specs.Prelude.{◌≡◌, ◌⊎◌, ℕ, true, false, List, [], Some, is_some, IsTrue, Contains}
use Rattle.std.specs.List.{slice_get}
use Rattle.acc_stamp.specs.declared.stamps.TxnId.{TxnId}
use Rattle.acc_stamp.specs.Stamp.{zero_stamp}
use Rattle.acc_stamp.specs.Rising.{IsRisingBy}
use Rattle.acc_deps.specs.Deps.{of_shard}
use Rattle.acc_deps.specs.declared.records.Settled.{Settled}
use Rattle.acc_message.specs.Opening.{Change}
use Rattle.acc_record.specs.declared.record.Record.{Record}
use Rattle.acc_record.specs.declared.shelf.Watch.{Watch}
use Rattle.acc_opening.specs.Plan.{Lookup, settled_in, is_past_behind, IsRight, EachRight}
use Rattle.acc_opening.specs.declared.turns.Turn.{Turn}
use Rattle.acc_opening.specs.Scan.{AllPastBehind}
use Rattle.acc_opening.specs.Turns.{key_of, key_lt, turn_lt, change_of, changes_in, HasItsTime, HaveTheirTimes}

abbrev pub no_turn : Turn
no_turn = record { t = zero_stamp; id = record { 0 = zero_stamp }; opens = false; applies = false }

-- the transaction is stable and was not opened, and the dependencies after a place no longer hold it back
pub record IsClosed (shard : ℕ) (at : Lookup) (done : List Change) (x : TxnId) (place : ℕ) : Type 0 where
  pub there : Record
  pub there_is : at x ≡ Some there
  pub closed : there.opened ≡ false
  pub settled : Settled
  pub stable : there.stable ≡ Some settled
  pub past : AllPastBehind at done settled.t (of_shard settled.deps shard) place

-- it waits for a dependency that holds it back
pub record IsHeld (shard : ℕ) (at : Lookup) (done : List Change) (y : TxnId) (w : Watch) : Type 0 where
  pub of : IsClosed shard at done w.id w.place
  pub waits_for : slice_get (of_shard of.settled.deps shard) w.place ≡ Some y
  pub held : is_past_behind at done of.settled.t y ≡ false

-- it no longer waits where it did, and comes after all turns so far
pub record IsWoken (shard : ℕ) (at : Lookup) (done : List Turn) (w : Watch) : Type 0 where
  pub of : IsClosed shard at (changes_in done) w.id w.place
  pub later : (a : Turn) (settled : Settled) → Contains done a → settled_in (at w.id) ≡ Some settled → key_lt (key_of a) (settled.t, w.id) ≡ true

abbrev pub HasTurnOf : TxnId → List Turn → Type 0
HasTurnOf x turns = (a : Turn) × Contains turns a × (a.id ≡ x)

abbrev pub Waits : TxnId → List Watch → Type 0
Waits x list = (w : Watch) × Contains list w × (w.id ≡ x)

-- its turn was, or comes, or it waits, or has to be looked at
abbrev pub IsPlaced : TxnId → (TxnId → List Watch) → List Watch → List Turn → List Turn → Type 0
IsPlaced x watching woken done queue =
    HasTurnOf x done ⊎ (HasTurnOf x queue ⊎ (((y : TxnId) × Waits x (watching y)) ⊎ Waits x woken))

-- The turns so far are right and rise, those that come are due and later, each watch is of a dependency that holds back, and
-- nothing that can be opened or applied, or waits, is left out.
pub record IsUnderWay (shard : ℕ) (at : Lookup) (watching : TxnId → List Watch) (woken : List Watch) (done queue : List Turn) : Type 0 where
  pub each : EachRight shard at [] (changes_in done)
  pub times : HaveTheirTimes at done
  pub rises : IsRisingBy turn_lt done
  pub queue_rises : IsRisingBy turn_lt queue
  pub queue_times : (a : Turn) → Contains queue a → HasItsTime at a
  pub later : (a b : Turn) → Contains done a → Contains queue b → turn_lt a b ≡ true
  pub due : (a : Turn) → Contains queue a → IsRight shard at (changes_in done) (change_of a)
  pub held : (y : TxnId) (w : Watch) → Contains (watching y) w → IsHeld shard at (changes_in done) y w
  pub awake : (w : Watch) → Contains woken w → IsWoken shard at done w
  pub opened :
      (x : TxnId) (r : Record) → at x ≡ Some r → IsTrue (is_some r.stable) → r.opened ≡ false → IsPlaced x watching woken done queue
  pub applied :
      (x : TxnId) (r : Record) → at x ≡ Some r → IsTrue r.opened → IsTrue (is_some r.outcome) → r.applied ≡ false
      → HasTurnOf x done ⊎ HasTurnOf x queue
