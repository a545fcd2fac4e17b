-- With the pairs that are left, the cells so far come to what all of them make of those before.
use Rattle.std.proofs.Common.{◌≡◌, drop}
use Rattle.acc_value.specs.Cells.{cell_of}
use Rattle.acc_coord.proofs.Joining.{Left, merged}
use Rattle.acc_coord.proofs.reads.joined.Given as goal

abbrev pub invariant-loop-key : goal.invariant-loop-key
invariant-loop-key l =
    (l.key-items ≡ l.cells) × Left l.topology l.shard (merged l.topology l.shard (cell_of l.before) l.cells) l.joined (drop l.key-index l.key-items)
