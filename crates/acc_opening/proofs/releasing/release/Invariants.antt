-- With the turns that are left, what was sent and written comes to what all turns send and write.
use Rattle.std.proofs.Common.{◌≡◌, ◌++◌, drop}
use Rattle.acc_stamp.specs.Actor.{shard_of}
use Rattle.acc_record.specs.Shelf.{cell_at}
use Rattle.acc_opening.specs.Lookup.{lookup}
use Rattle.acc_opening.proofs.ReleaseFacts.{Left}
use Rattle.acc_opening.proofs.releasing.release.Given as goal

abbrev pub invariant-loop-turn : goal.invariant-loop-turn
invariant-loop-turn l =
    Left l.topology l.own (lookup l.known.records.now l.known.own.now) l.turns (cell_at l.cells) l.sent l.writes (drop l.turn-index l.turns)
