use Rattle.std.proofs.Common.{◌≡◌, ℕ}
use Rattle.acc_message_index.specs.Trees.{leaf, IsTree}
use Rattle.acc_message_index.proofs.Leaves.{first_leaves}
use Rattle.acc_message_index.proofs.least.grown.Given as goal

abbrev pub invariant-loop-number : goal.invariant-loop-number
invariant-loop-number l = record {
  tree : IsTree l.more l.tree.items;
  leaves : (number : ℕ) → leaf l.more l.tree.items number ≡ first_leaves l.number l.count l.places number;
}
