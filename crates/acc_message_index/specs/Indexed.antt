-- What the links of the index lead to.
use Rattle.std.specs.Prelude.{◌≡◌, ◌≢◌, ℕ, ◌<◌, ◌≤◌, ◌%◌, false, List, length, slice_index}
use Rattle.acc_message_index.specs.declared.posting.Posting.{Posting}
use Rattle.acc_message_index.specs.Mail.{posting_at}

-- the place of no message, before which each message stands
abbrev pub none : ℕ
none = 4294967295

-- the lane of a message
abbrev pub lane_at : List Posting → ℕ → ℕ
lane_at sent number = (posting_at sent number).to % 1024

-- no lane has a place of a message
pub record AreNowhere (lanes : ℕ) (places : List ℕ) : Type 0 where
  pub count : length places ≡ lanes
  pub nowhere : (lane : ℕ) → lane < lanes → slice_index places lane ≡ none

pub record Indexed (sent : List Posting) (links firsts lasts : List ℕ) : Type 0 where
  pub linked : length links ≡ length sent
  pub first_of_each : length firsts ≡ 1024
  pub last_of_each : length lasts ≡ 1024
  -- where there is no message to lead to, the place of none is noted
  pub link_or_none : (k : ℕ) → k < length sent → length sent ≤ slice_index links k → slice_index links k ≡ none
  pub first_or_none : (lane : ℕ) → lane < 1024 → length sent ≤ slice_index firsts lane → slice_index firsts lane ≡ none
  pub last_or_none : (lane : ℕ) → lane < 1024 → length sent ≤ slice_index lasts lane → slice_index lasts lane ≡ none
  -- a link leads to the next message of the lane, or past all messages
  pub rises : (k : ℕ) → k < length sent → k < slice_index links k
  pub follows : (k : ℕ) → k < length sent → slice_index links k < length sent → lane_at sent (slice_index links k) ≡ lane_at sent k
  pub between : (k j : ℕ) → k < j → j < slice_index links k → j < length sent → lane_at sent j ≢ lane_at sent k
  -- before a lane's first message none of the lane is open
  pub starts : (lane : ℕ) → lane < 1024 → slice_index firsts lane < length sent → lane_at sent (slice_index firsts lane) ≡ lane
  pub before : (j : ℕ) → j < length sent → j < slice_index firsts (lane_at sent j) → (posting_at sent j).is_open ≡ false
  -- behind a lane's last message there is none of the lane
  pub ends : (lane : ℕ) → lane < 1024 → slice_index lasts lane < length sent → lane_at sent (slice_index lasts lane) ≡ lane
  pub behind : (j : ℕ) → j < length sent → (j ≤ slice_index lasts (lane_at sent j)) × (slice_index lasts (lane_at sent j) < length sent)
