-- The other transactions at the places so far are added.
use Rattle.std.proofs.Common.{◌≡◌, ◌++◌, take}
use Rattle.acc_index.specs.Places.{others, ids_of}
use Rattle.acc_index.proofs.columns.Columns.collect_others.Given as goal

abbrev pub invariant-loop-place : goal.invariant-loop-place
invariant-loop-place l = l.found.items ≡ l.fn.found.items ++ ids_of l.self (others l.self l.id (take l.place-index l.places))
