use Rattle.std.proofs.Common.{◌≡◌, ℕ, ◌*◌, ◌/◌, ◌<◌, ◌≤◌, get_or}
use Rattle.acc_message_index.proofs.Leaves.{IsTreeBut}
use Rattle.acc_message_index.proofs.least.set_leaf.Given as goal

abbrev pub invariant-loop-at : goal.invariant-loop-at
invariant-loop-at l = record {
  from : 1 ≤ l.at;
  within : l.at < 2 * l.count;
  tree : IsTreeBut l.count (l.at / 2) l.places.items;
  leaves : (k : ℕ) → l.count ≤ k → get_or l.places.items k 0 ≡ get_or l.initial.places.items k 0;
}

abbrev pub decreases-loop-at : goal.decreases-loop-at
decreases-loop-at l = l.at
