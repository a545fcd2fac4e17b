-- The items before this one are entered.
use Rattle.acc_left.specs.Leaves.{actors_rising}
use Rattle.acc_left.proofs.ItemFacts.{AreLeftSoFar}
use Rattle.acc_left.proofs.images.leave.Given as goal

abbrev pub invariant-loop-place : goal.invariant-loop-place
invariant-loop-place l = AreLeftSoFar l.plan.version (actors_rising l.plan.topology) l.items l.place l.images.items l.places
