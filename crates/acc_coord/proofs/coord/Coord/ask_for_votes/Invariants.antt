-- A message to each of the stores so far.
use Rattle.std.proofs.Common.{◌≡◌, map, take}
use Rattle.acc_coord.specs.Rounds.{question_to}
use Rattle.acc_coord.proofs.coord.Coord.ask_for_votes.Given as goal

abbrev pub invariant-loop-store : goal.invariant-loop-store
invariant-loop-store l = l.out ≡ map (question_to l.self) (take l.store-index l.store-items)
