-- The greatest of those before and of the other transactions at the places that are done.
use Rattle.std.proofs.Common.{◌≡◌, ℕ, List, ◌++◌, length}
use Rattle.acc_stamp.specs.declared.stamps.Stamp.{Stamp}
use Rattle.acc_index.specs.Noted.{IsGreatestStamp}
use Rattle.acc_index.specs.Places.{InRange, others, stamps_of}
use Rattle.acc_index.proofs.columns.Columns.greatest_of.Given as goal

abbrev pub invariant-loop-rest : goal.invariant-loop-rest
invariant-loop-rest l = record {
  in_range : InRange l.self l.rest;
  met : (done : List ℕ) × (done ++ l.rest ≡ l.places) × ((earlier : List Stamp) → IsGreatestStamp earlier l.fn.so_far → IsGreatestStamp (earlier ++ stamps_of l.self (others l.self l.id done)) l.greatest);
}

abbrev pub decreases-loop-rest : goal.decreases-loop-rest
decreases-loop-rest l = length l.rest
