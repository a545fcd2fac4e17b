-- The changes of a step, in words of their own: what is newly opened or applied, each once, in what order, and when.
use Rattle.std.specs.Prelude.{◌≡◌, ℕ, Bool, true, false, not, ◌&&◌, ◌⊎◌, List, [], ◌∷◌, ◌++◌, Some, IsTrue, is_some, map}
use Rattle.std.specs.List.{AllByRecursion, list_any}
use Rattle.acc_stamp.specs.declared.stamps.TxnId.{TxnId}
use Rattle.acc_stamp.specs.Stamp.{id_eq}
use Rattle.acc_stamp.specs.Rising.{IsRisingBy, id_among}
use Rattle.acc_deps.specs.Deps.{of_shard}
use Rattle.acc_deps.specs.declared.records.Settled.{Settled}
use Rattle.acc_message.specs.Taken.{Taken}
use Rattle.acc_message.specs.BallotRules.{stable_of}
use Rattle.acc_message.specs.Opening.{comes_first, Standing, standing_lt, Change, is_change, changes_of, is_opened, is_applied}

-- some of the changes opens x, or applies it
abbrev pub opens_in : TxnId → List Change → Bool
opens_in x changes = list_any (λ (c : Change). id_eq c.id x && c.opens) changes

abbrev pub applies_in : TxnId → List Change → Bool
applies_in x changes = list_any (λ (c : Change). id_eq c.id x && c.applies) changes

-- y was applied before the step, or one of the changes so far applies it
abbrev pub AppliedBy : ℕ → List Taken → List Change → TxnId → Type 0
AppliedBy shard past done y = (is_applied shard past y ≡ true) ⊎ (applies_in y done ≡ true)

-- The change is due after these: its transaction is stable, and every dependency of it in this shard is stable and, where its
-- timestamp is smaller, applied.
pub record IsDue (shard : ℕ) (step : Taken) (past : List Taken) (done : List Change) (c : Change) : Type 0 where
  pub settled : Settled
  pub settled_is : stable_of (step ∷ past) c.id ≡ Some settled
  pub stable : (y : TxnId) → IsTrue (id_among y (of_shard settled.deps shard)) → IsTrue (is_some (stable_of (step ∷ past) y))
  pub applied :
      (y : TxnId) (theirs : Settled) → IsTrue (id_among y (of_shard settled.deps shard)) → stable_of (step ∷ past) y ≡ Some theirs
      → IsTrue (comes_first settled.t theirs) → AppliedBy shard past done y

-- each change is due after those in front of it
abbrev pub EachDue : ℕ → Taken → List Taken → List Change → List Change → Type 0
EachDue shard step past done [] = Unit {0}
EachDue shard step past done (c ∷ rest) = IsDue shard step past done c × EachDue shard step past (done ++ c ∷ []) rest

-- the changes rise by the timestamps of their transactions, and of equal timestamps by their ids, so each transaction has one
pub record AreInOrder (history : List Taken) (changes : List Change) : Type 0 where
  pub standings : List Standing
  pub same : map (λ (s : Standing). s.id) standings ≡ map (λ (c : Change). c.id) changes
  pub truly : AllByRecursion (λ (s : Standing). stable_of history s.id ≡ Some s.settled) standings
  pub rising : IsRisingBy standing_lt standings

-- The changes of a step open just what is newly opened, and apply just what is newly applied.
pub record OpensInOrder (shard : ℕ) (step : Taken) (past : List Taken) : Type 0 where
  pub opened : (x : TxnId) → opens_in x (changes_of shard step past) ≡ (is_opened shard (step ∷ past) x && not (is_opened shard past x))
  pub applied : (x : TxnId) → applies_in x (changes_of shard step past) ≡ (is_applied shard (step ∷ past) x && not (is_applied shard past x))
  pub each : AllByRecursion (λ (c : Change). is_change c ≡ true) (changes_of shard step past)
  pub order : AreInOrder (step ∷ past) (changes_of shard step past)
  pub due : EachDue shard step past [] (changes_of shard step past)
