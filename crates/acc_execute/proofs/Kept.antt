-- Each turn of a plan is of a transaction that has a record.
use Rattle.std.proofs.Common.{ℕ, List, [], ◌∷◌, ◌++◌, is_some, ap}
use Rattle.std.specs.List.{AllByRecursion}
use Rattle.acc_message.specs.Opening.{Change}
use Rattle.acc_opening.specs.Plan.{Lookup, EachRight}
use Rattle.acc_opening.specs.declared.turns.Turn.{Turn}
use Rattle.acc_opening.specs.Turns.{change_of, changes_in}
use Rattle.acc_opening.specs.Release.{IsKept}

pub all_kept : (shard : ℕ) (at : Lookup) (done : List Change) (turns : List Turn) → EachRight shard at done (changes_in turns) → AllByRecursion (IsKept at) turns
all_kept shard at done [] each = tt
all_kept shard at done (turn ∷ turns) each =
    (ap is_some each.0.there_is, all_kept shard at (done ++ change_of turn ∷ []) turns each.1)
