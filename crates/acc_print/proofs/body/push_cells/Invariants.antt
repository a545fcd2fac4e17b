-- The names after the first are written up to this one, each after a comma.
use Rattle.std.proofs.Common.{◌≡◌, ◌++◌, take}
use Rattle.std.specs.Prelude.{codes}
use Rattle.std.specs.List.{flat_map}
use Rattle.acc_print.specs.Canonical.{cell_text}
use Rattle.acc_print.proofs.body.push_cells.Given as goal

abbrev pub invariant-loop-number : goal.invariant-loop-number
invariant-loop-number l = l.text.items ≡ l.initial.text.items ++ flat_map (λ number. codes ", " ++ cell_text l.lets number) (take l.number-index l.others)
