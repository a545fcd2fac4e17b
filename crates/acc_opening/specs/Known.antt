-- By what a step is planned.
use Rattle.std.specs.Prelude.{◌≡◌, ℕ, false, ◌&&◌, [], None, Some, is_some, IsTrue}
use Rattle.acc_stamp.specs.declared.stamps.TxnId.{TxnId}
use Rattle.acc_deps.specs.declared.records.Settled.{Settled}
use Rattle.acc_record.specs.declared.record.Record.{Record}
use Rattle.acc_record.specs.Shelf.{Records, Waits, record_at}
use Rattle.acc_record.specs.Waits.{AreWaits}
use Rattle.acc_opening.specs.declared.plan.Planning.{Planning}

-- The lists are of who waits for whom; what is opened is stable, and what is opened with an outcome is applied. The own record is
-- stable, and is what the store keeps of the transaction with what the step brings.
pub record IsKnown (shard : ℕ) (records : Records) (own : Record) (waits : Waits) : Type 0 where
  pub waiting : AreWaits shard (record_at records) waits
  pub opened : (x : TxnId) (r : Record) → record_at records x ≡ Some r → IsTrue r.opened → IsTrue (is_some r.stable)
  pub applied : (x : TxnId) (r : Record) → record_at records x ≡ Some r → r.applied ≡ (r.opened && is_some r.outcome)
  pub stable : IsTrue (is_some own.stable)
  pub kept_opened : (r : Record) → record_at records own.id ≡ Some r → own.opened ≡ r.opened
  pub kept_applied : (r : Record) → record_at records own.id ≡ Some r → own.applied ≡ r.applied
  pub kept_stable : (r : Record) (s : Settled) → record_at records own.id ≡ Some r → r.stable ≡ Some s → own.stable ≡ Some s
  pub new_opened : record_at records own.id ≡ None → own.opened ≡ false
  pub new_applied : record_at records own.id ≡ None → own.applied ≡ false

-- nothing is planned yet
pub record IsEmptyPlan (plan : Planning) : Type 0 where
  pub done : plan.done ≡ []
  pub queue : plan.queue ≡ []
  pub touched : plan.touched.entries ≡ []
