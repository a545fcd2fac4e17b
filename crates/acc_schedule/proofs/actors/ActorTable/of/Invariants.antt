-- The nodes and the stores of the shards before this place are added.
use Rattle.std.proofs.Common.{◌≡◌, ℕ, List}
use Rattle.acc_schedule.specs.Actors.{actor_named, at_name}
use Rattle.acc_schedule.proofs.ActorFacts.{actors_to}
use Rattle.acc_schedule.proofs.actors.ActorTable.of.Given as goal

abbrev pub invariant-loop-place : goal.invariant-loop-place
invariant-loop-place l = (name : List ℕ) → at_name l.table name ≡ actor_named (actors_to l.topology l.place) name
