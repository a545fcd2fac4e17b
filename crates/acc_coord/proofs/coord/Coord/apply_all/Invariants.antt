-- A message to each of the stores so far.
use Rattle.std.proofs.Common.{◌≡◌, map, take}
use Rattle.acc_coord.specs.Rounds.{apply_to}
use Rattle.acc_coord.proofs.coord.Coord.apply_all.Given as goal

abbrev pub invariant-loop-store : goal.invariant-loop-store
invariant-loop-store l = l.out ≡ map (apply_to l.self l.settled l.outcome) (take l.store-index l.store-items)
