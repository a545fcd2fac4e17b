-- The items so far are noted.
use Rattle.std.proofs.Common.{take}
use Rattle.acc_history.specs.Stands.{IsNoted}
use Rattle.acc_history.proofs.history.History.over.Given as goal

abbrev pub invariant-loop-place : goal.invariant-loop-place
invariant-loop-place l = IsNoted (take l.place l.fn.items.items) l.waiting l.begun.items l.weight
