-- What was sent and is open, which actors are down, and which messages wait.
use Rattle.std.specs.Prelude.{◌≡◌, ℕ, ◌<◌, Bool, true, false, not, ◌&&◌, List, length}
use Rattle.std.specs.List.{slice_index_or}
use Rattle.acc_message_index.specs.declared.posting.Posting.{Posting}
use Rattle.acc_message_index.specs.Mail.{posting_at}

-- the messages that were sent, the room for more of them, and for each actor whether it is down
pub record Standing : Type 0 where
  pub sent : List Posting
  pub room : ℕ
  pub downs : List Bool

-- an actor that has no room is up
abbrev pub is_down_at : List Bool → ℕ → Bool
is_down_at downs actor = slice_index_or downs actor false

-- the message is open, and its actor is up
abbrev pub waits_in : List Posting → List Bool → ℕ → Bool
waits_in sent downs number = (posting_at sent number).is_open && not (is_down_at downs (posting_at sent number).to)

pub record Waits (s : Standing) (number : ℕ) : Type 0 where
  pub was_sent : number < length s.sent
  pub waits : waits_in s.sent s.downs number ≡ true

abbrev pub NothingWaits : Standing → Type 0
NothingWaits s = (number : ℕ) → ¬ Waits s number

pub record IsOldest (s : Standing) (number : ℕ) : Type 0 where
  pub waits : Waits s number
  pub oldest : (older : ℕ) → older < number → ¬ Waits s older
