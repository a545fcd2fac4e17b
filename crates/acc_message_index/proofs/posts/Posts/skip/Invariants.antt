use Rattle.std.proofs.Common.{◌≡◌, ℕ, ◌-◌, ◌<◌, ◌≤◌, false, length}
use Rattle.acc_message_index.specs.Mail.{posting_at}
use Rattle.acc_message_index.specs.Indexed.{none, lane_at}
use Rattle.acc_message_index.proofs.posts.Posts.skip.Given as goal

abbrev pub invariant-loop-first : goal.invariant-loop-first
invariant-loop-first l = record {
  on_lane : l.first < length l.self-inside.postings.items → lane_at l.self-inside.postings.items l.first ≡ l.lane;
  passed : (j : ℕ) → j < length l.self-inside.postings.items → j < l.first → lane_at l.self-inside.postings.items j ≡ l.lane → (posting_at l.self-inside.postings.items j).is_open ≡ false;
  or_none : length l.self-inside.postings.items ≤ l.first → l.first ≡ none;
}

abbrev pub decreases-loop-first : goal.decreases-loop-first
decreases-loop-first l = length l.self-inside.postings.items - l.first
