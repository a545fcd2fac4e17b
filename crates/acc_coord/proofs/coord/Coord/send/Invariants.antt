-- A message to each of the stores so far.
use Rattle.std.proofs.Common.{◌≡◌, map, take}
use Rattle.acc_coord.specs.Rounds.{message_to}
use Rattle.acc_coord.proofs.coord.Coord.send.Given as goal

abbrev pub invariant-loop-store : goal.invariant-loop-store
invariant-loop-store l = l.out ≡ map (message_to l.self l.round l.settled) (take l.store-index l.store-items)
