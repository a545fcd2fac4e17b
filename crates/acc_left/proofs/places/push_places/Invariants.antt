-- The places of the messages before this one are appended.
use Rattle.acc_left.proofs.PlaceFacts.{ArePlacedUpTo}
use Rattle.acc_left.proofs.places.push_places.Given as goal

abbrev pub invariant-loop-index : goal.invariant-loop-index
invariant-loop-index l = ArePlacedUpTo l.items l.item l.initial.places.items l.places.items l.index
