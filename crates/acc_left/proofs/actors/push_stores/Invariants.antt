-- The stores of the shards before this place are listed.
use Rattle.std.proofs.Common.{◌≡◌, ◌++◌}
use Rattle.acc_left.proofs.ActorFacts.{stores_below}
use Rattle.acc_left.proofs.actors.push_stores.Given as goal

abbrev pub invariant-loop-place : goal.invariant-loop-place
invariant-loop-place l = l.actors ≡ l.initial.actors ++ stores_below l.topology l.node l.place
