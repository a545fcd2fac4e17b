use Rattle.std.proofs.Common.{◌≡◌, ℕ, ◌-◌, ◌<◌, ◌≤◌, false, length}
use Rattle.acc_message_index.specs.Standing.{waits_in}
use Rattle.acc_message_index.proofs.waiting.next_waiting.Given as goal

abbrev pub invariant-loop-number : goal.invariant-loop-number
invariant-loop-number l = record {
  from_on : l.from ≤ l.number;
  within : l.number ≤ length l.posts.sent;
  passed : (older : ℕ) → l.from ≤ older → older < l.number → waits_in l.posts.sent l.downs older ≡ false;
}

abbrev pub decreases-loop-number : goal.decreases-loop-number
decreases-loop-number l = length l.posts.sent - l.number
