-- The cells of the keys so far are there.
use Rattle.std.proofs.Common.{◌≡◌, true, take}
use Rattle.std.specs.List.{list_any}
use Rattle.acc_value.specs.declared.key.Key.{Key}
use Rattle.acc_value.specs.Key.{key_eq}
use Rattle.acc_value.specs.Cells.{cell_of, cells_of}
use Rattle.acc_glance.proofs.answers.cells_at.Given as goal

abbrev pub invariant-loop-key : goal.invariant-loop-key
invariant-loop-key l = (key : Key) → list_any (λ other. key_eq key other.0) (take l.key-index l.uses) ≡ true → cell_of l.used key ≡ cells_of l.cells key
