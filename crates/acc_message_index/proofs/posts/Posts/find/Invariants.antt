use Rattle.std.proofs.Common.{◌≡◌, ℕ, ◌-◌, ◌%◌, ◌<◌, ◌≤◌, length}
use Rattle.acc_message_index.specs.Mail.{IsOpenTo}
use Rattle.acc_message_index.specs.Indexed.{lane_at}
use Rattle.acc_message_index.proofs.posts.Posts.find.Given as goal

abbrev pub invariant-loop-at : goal.invariant-loop-at
invariant-loop-at l = record {
  on_lane : l.at < length l.self-inside.postings.items → lane_at l.self-inside.postings.items l.at ≡ l.actor % 1024;
  passed : (number : ℕ) → l.from ≤ number → number < l.at → ¬ IsOpenTo l.self-inside.postings.items l.actor number;
}

abbrev pub decreases-loop-at : goal.decreases-loop-at
decreases-loop-at l = length l.self-inside.postings.items - l.at
