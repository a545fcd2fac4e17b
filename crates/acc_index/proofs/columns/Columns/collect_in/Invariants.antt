-- The transactions at those of the places so far that both masks tell are added.
use Rattle.std.proofs.Common.{◌≡◌, ◌-◌, ◌++◌, ◌&&◌, false, get_or, take, filter}
use Rattle.acc_index.specs.Places.{ids_of}
use Rattle.acc_index.proofs.columns.Columns.collect_in.Given as goal

abbrev pub invariant-loop-place : goal.invariant-loop-place
invariant-loop-place l =
    l.found.items
    ≡ l.fn.found.items ++ ids_of l.self (filter (λ p. get_or l.block.mask (p - l.block.start) false && get_or l.below (p - l.block.start) false) (take l.place-index l.places))
