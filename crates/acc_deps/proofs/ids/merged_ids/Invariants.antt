-- What is merged, with the union of what is left of both lists behind it, is the union of the lists.
use Rattle.std.proofs.Common.{length, ◌-◌, ◌+◌, ◌≤◌}
use Rattle.acc_deps.proofs.Merge.{IsMerged}
use Rattle.acc_deps.proofs.ids.merged_ids.Given as goal

abbrev pub invariant-loop-i : goal.invariant-loop-i
invariant-loop-i l = record {
  left : l.i ≤ length l.left;
  right : l.j ≤ length l.right;
  so_far : IsMerged l.left l.right l.merged l.i l.j;
}

abbrev pub decreases-loop-i : goal.decreases-loop-i
decreases-loop-i l = (length l.left - l.i) + (length l.right - l.j)
