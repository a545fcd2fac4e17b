-- The keys of the LETs so far were read.
use Rattle.std.proofs.Common.{◌≡◌, map, take}
use Rattle.acc_opening.specs.Layer.{layered, read_more}
use Rattle.acc_opening.proofs.read.add_lets.Given as goal

abbrev pub invariant-loop-binding : goal.invariant-loop-binding
invariant-loop-binding l =
    l.read ≡ read_more l.place.topology.now l.place.shard (layered l.place.cells.now l.writes) l.fn.read (map (λ b. b.key) (take l.binding-index l.lets))
