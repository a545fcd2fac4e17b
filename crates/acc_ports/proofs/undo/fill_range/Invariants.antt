-- So far the first of the places have the byte, and the others are as they were.
use Rattle.std.proofs.Common.{◌-◌, []}
use Rattle.std.specs.Prelude.{◌∷◌, ◌≤◌}
use Rattle.acc_ports.specs.Strict.{IsFilled}
use Rattle.acc_ports.proofs.undo.fill_range.Given as goal

abbrev pub invariant-loop-place : goal.invariant-loop-place
invariant-loop-place l = record {
  inside : l.from ≤ l.place;
  filled : IsFilled l.byte ((l.from, l.place - l.from) ∷ []) l.initial.content.items l.content.items;
}
