-- What is left to take back leads to the content at the last sync.
use Rattle.std.proofs.Common.{◌≡◌, reverse}
use Rattle.acc_ports.specs.Undo.{synced_of, CanUndo}
use Rattle.acc_ports.proofs.undo.take_back.Given as goal

abbrev pub invariant-loop-write : goal.invariant-loop-write
invariant-loop-write l = record {
  undo : CanUndo (reverse l.writes.items) l.content.items;
  synced : synced_of l.writes.items l.content.items ≡ synced_of l.initial.writes.items l.initial.content.items;
}

abbrev pub decreases-loop-write : goal.decreases-loop-write
decreases-loop-write l = goal.left-loop-write l
