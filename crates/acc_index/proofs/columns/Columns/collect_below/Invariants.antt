-- The other transactions with small stamps at the places that are done are added.
use Rattle.std.proofs.Common.{◌≡◌, ℕ, List, ◌++◌, length}
use Rattle.acc_index.specs.Places.{InRange, others, those_below, ids_of}
use Rattle.acc_index.proofs.columns.Columns.collect_below.Given as goal

abbrev pub invariant-loop-rest : goal.invariant-loop-rest
invariant-loop-rest l = record {
  in_range : InRange l.self l.rest;
  so_far : (done : List ℕ) × (done ++ l.rest ≡ l.places) × (l.found.items ≡ l.fn.found.items ++ ids_of l.self (those_below l.self l.bound (others l.self l.id done)));
}

abbrev pub decreases-loop-rest : goal.decreases-loop-rest
decreases-loop-rest l = length l.rest
