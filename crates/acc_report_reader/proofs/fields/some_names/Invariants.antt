-- The names that are left go on from some before them.
use Rattle.std.proofs.Common.{◌≡◌, ℕ, List, ◌++◌, length}
use Rattle.std.specs.Prelude.{option_map}
use Rattle.acc_report_reader.specs.Fields.{list_in, name_in}
use Rattle.acc_report_reader.proofs.fields.some_names.Given as goal

abbrev pub invariant-loop-first : goal.invariant-loop-first
invariant-loop-first l = (before : List (List ℕ)) × (list_in name_in l.bytes ≡ option_map (λ ys. before ++ ys) (list_in name_in l.rest))

abbrev pub decreases-loop-first : goal.decreases-loop-first
decreases-loop-first l = length l.rest
