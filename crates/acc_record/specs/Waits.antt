-- Who waits for whom: each stable transaction that isn't opened watches the last of its dependencies that holds it back.
use Rattle.std.specs.Prelude.{◌≡◌, ℕ, ◌<◌, Bool, false, Option, None, Some, is_some, IsTrue, Contains}
use Rattle.std.specs.List.{slice_get}
use Rattle.acc_stamp.specs.declared.stamps.Stamp.{Stamp}
use Rattle.acc_stamp.specs.declared.stamps.TxnId.{TxnId}
use Rattle.acc_deps.specs.Deps.{of_shard}
use Rattle.acc_deps.specs.declared.records.Settled.{Settled}
use Rattle.acc_message.specs.Opening.{is_past}
use Rattle.acc_record.specs.declared.record.Record.{Record}
use Rattle.acc_record.specs.declared.shelf.Watch.{Watch}
use Rattle.acc_record.specs.Shelf.{Waits, watchers}

-- a dependency no longer holds back a transaction with this timestamp: it is stable and, where its timestamp is smaller, applied
abbrev pub is_past_record : Stamp → Option Record → Bool
is_past_record t None = false
is_past_record t (Some r) = is_past t r.applied r.stable

-- the watch is of a stable transaction that isn't opened, for the last of its dependencies in the shard that holds it back
pub record IsWatch (shard : ℕ) (at : TxnId → Option Record) (y : TxnId) (w : Watch) : Type 0 where
  pub record_of : Record
  pub there : at w.id ≡ Some record_of
  pub closed : record_of.opened ≡ false
  pub settled : Settled
  pub stable : record_of.stable ≡ Some settled
  pub waits_for : slice_get (of_shard settled.deps shard) w.place ≡ Some y
  pub held_back : is_past_record settled.t (at y) ≡ false
  pub others :
      (i : ℕ) (z : TxnId) → w.place < i → slice_get (of_shard settled.deps shard) i ≡ Some z → IsTrue (is_past_record settled.t (at z))

-- every watch is one, and each stable transaction that isn't opened has one
pub record AreWaits (shard : ℕ) (at : TxnId → Option Record) (waits : Waits) : Type 0 where
  pub true : (y : TxnId) (w : Watch) → Contains (watchers waits y) w → IsWatch shard at y w
  pub all :
      (x : TxnId) (r : Record) → at x ≡ Some r → IsTrue (is_some r.stable) → r.opened ≡ false
      → (y : TxnId) × (w : Watch) × Contains (watchers waits y) w × (w.id ≡ x)
