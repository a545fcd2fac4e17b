-- Which transactions commands begin.
use Rattle.std.specs.Prelude.{◌≡◌, ℕ, ◌==◌, Bool, false, List, take, Some}
use Rattle.std.specs.List.{slice_get, list_any}
use Rattle.acc_schedule.specs.declared.plan.Step.{Step}
use Rattle.acc_schedule.specs.declared.plan.Step.TheVariants.{Begin}

-- the command begins the transaction
abbrev pub begins_it : ℕ → Step → Bool
begins_it txn (Begin number) = number == txn
begins_it txn _ = false

-- none begins a transaction that one before it begins
abbrev pub BeginsOnce : List Step → Type 0
BeginsOnce commands = (place txn : ℕ) → slice_get commands place ≡ Some (Begin txn) → list_any (begins_it txn) (take place commands) ≡ false
