-- The cells of the keys so far are there.
use Rattle.std.proofs.Common.{◌≡◌, true, take}
use Rattle.std.specs.List.{list_any}
use Rattle.acc_value.specs.declared.key.Key.{Key}
use Rattle.acc_value.specs.Key.{key_eq}
use Rattle.acc_value.specs.Cells.{cell_of, cells_of}
use Rattle.acc_audit.proofs.answers.cells_bound.Given as goal

abbrev pub invariant-loop-one : goal.invariant-loop-one
invariant-loop-one l = (key : Key) → list_any (λ one. key_eq key one.key) (take l.one-index l.lets) ≡ true → cell_of l.known key ≡ cells_of l.cells key
