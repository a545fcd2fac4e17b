-- What a step opens and applies, told by the records of a store alone: the records with what the step brings, a stable record or
-- an outcome, of which nothing was opened or applied in this step yet.
use Rattle.std.specs.Prelude.{◌≡◌, ℕ, Bool, false, not, ◌&&◌, ◌||◌, List, [], ◌∷◌, ◌++◌, Option, None, Some, IsTrue, is_some}
use Rattle.std.specs.List.{list_all}
use Rattle.std.specs.Ordering.{ordering_then, is_lt}
use Rattle.acc_stamp.specs.declared.stamps.Stamp.{Stamp}
use Rattle.acc_stamp.specs.declared.stamps.TxnId.{TxnId}
use Rattle.acc_stamp.specs.Stamp.{stamp_cmp, id_cmp, zero_stamp}
use Rattle.acc_stamp.specs.Rising.{IsRisingBy}
use Rattle.acc_deps.specs.Deps.{of_shard}
use Rattle.acc_deps.specs.declared.records.Settled.{Settled}
use Rattle.acc_txn.specs.declared.outcome.Outcome.{Outcome}
use Rattle.acc_message.specs.Taken.{Taken}
use Rattle.acc_message.specs.BallotRules.{stable_of, kept_outcome}
use Rattle.acc_message.specs.Opening.{Change, is_change, is_past, is_opened, is_applied}
use Rattle.acc_actor_laws.specs.OpeningOrder.{opens_in, applies_in}
use Rattle.acc_record.specs.declared.record.Record.{Record}

-- what a store keeps of each transaction
abbrev pub Lookup : Type 0
Lookup = TxnId → Option Record

abbrev pub settled_in : Option Record → Option Settled
settled_in None = None
settled_in (Some r) = r.stable

abbrev pub outcome_in : Option Record → Option Outcome
outcome_in None = None
outcome_in (Some r) = r.outcome

abbrev pub is_opened_in : Option Record → Bool
is_opened_in None = false
is_opened_in (Some r) = r.opened

abbrev pub is_applied_in : Option Record → Bool
is_applied_in None = false
is_applied_in (Some r) = r.applied

-- ---- readiness after some changes

-- y is applied, before the step or by one of these changes
abbrev pub is_applied_behind : Lookup → List Change → TxnId → Bool
is_applied_behind at done y = is_applied_in (at y) || applies_in y done

-- after these changes y holds back no transaction with this timestamp
abbrev pub is_past_behind : Lookup → List Change → Stamp → TxnId → Bool
is_past_behind at done t y = is_past t (is_applied_behind at done y) (settled_in (at y))

-- nor does any of the dependencies in the shard
abbrev pub is_ready_behind : ℕ → Lookup → List Change → Settled → Bool
is_ready_behind shard at done s = list_all (is_past_behind at done s.t) (of_shard s.deps shard)

-- ---- plans

-- The change is right after these: it opens a stable transaction that is ready, or applies one that was opened; and it applies
-- what has an outcome and isn't applied.
pub record IsRight (shard : ℕ) (at : Lookup) (done : List Change) (c : Change) : Type 0 where
  pub there : Record
  pub there_is : at c.id ≡ Some there
  pub settled : Settled
  pub stable : there.stable ≡ Some settled
  pub opens : c.opens ≡ not there.opened
  pub ready : IsTrue c.opens → IsTrue (is_ready_behind shard at done settled)
  pub applies : c.applies ≡ (is_some there.outcome && not there.applied)
  pub changes : IsTrue (is_change c)

abbrev pub EachRight : ℕ → Lookup → List Change → List Change → Type 0
EachRight shard at done [] = Unit {0}
EachRight shard at done (c ∷ rest) = IsRight shard at done c × EachRight shard at (done ++ c ∷ []) rest

-- by the timestamp of the transaction, and of equal timestamps by its id
abbrev pub t_of : Option Settled → Stamp
t_of None = zero_stamp
t_of (Some s) = s.t

abbrev pub change_lt : Lookup → Change → Change → Bool
change_lt at a b =
    is_lt (ordering_then (stamp_cmp (t_of (settled_in (at a.id))) (t_of (settled_in (at b.id)))) (id_cmp a.id b.id))

-- A plan: each change is right after those before it, they rise, and nothing is left to do: what isn't opened by them is held
-- back, and what was opened and has an outcome is applied.
pub record IsPlan (shard : ℕ) (at : Lookup) (changes : List Change) : Type 0 where
  pub each : EachRight shard at [] changes
  pub rising : IsRisingBy (change_lt at) changes
  pub opened :
      (x : TxnId) (r : Record) (s : Settled) → at x ≡ Some r → r.stable ≡ Some s → r.opened ≡ false → opens_in x changes ≡ false
      → is_ready_behind shard at changes s ≡ false
  pub applied :
      (x : TxnId) (r : Record) → at x ≡ Some r → IsTrue r.opened → IsTrue (is_some r.outcome) → r.applied ≡ false
      → IsTrue (applies_in x changes)

-- ---- histories

-- The records are those of a history whose last step is being taken: what is stable and has an outcome counts with the step, and
-- what is opened and applied without it.
pub record IsTaking (shard : ℕ) (step : Taken) (past : List Taken) (at : Lookup) : Type 0 where
  pub stable : (x : TxnId) → settled_in (at x) ≡ stable_of (step ∷ past) x
  pub outcome : (x : TxnId) → outcome_in (at x) ≡ kept_outcome (step ∷ past) x
  pub opened : (x : TxnId) → is_opened_in (at x) ≡ is_opened shard past x
  pub applied : (x : TxnId) → is_applied_in (at x) ≡ is_applied shard past x
