-- With the writes that are left, the cells come to what all writes make of those before.
use Rattle.std.proofs.Common.{drop}
use Rattle.acc_opening.proofs.LayerFacts.{Left}
use Rattle.acc_opening.proofs.layer.write.Given as goal

abbrev pub invariant-loop-key : goal.invariant-loop-key
invariant-loop-key l = Left l.topology l.shard l.fn.writes l.pairs l.writes (drop l.key-index l.pairs)
