-- The first message that waits and isn't late, and for each actor that is up the first late message to it.
use Rattle.std.specs.Prelude.{◌≡◌, ◌⊎◌, ℕ, ◌<◌, ◌≤◌, Bool, true, false, List, [], length}
use Rattle.acc_message_index.specs.declared.posting.Posting.{Posting}
use Rattle.acc_message_index.specs.Mail.{Mail, posting_at, IsOpenTo}
use Rattle.acc_message_index.specs.Trees.{none, leaf, IsTree}
use Rattle.acc_message_index.specs.Standing.{is_down_at, waits_in}

-- each message goes to an actor that has room
abbrev pub AreCovered : List Posting → ℕ → Type 0
AreCovered sent count = (number : ℕ) → number < length sent → (posting_at sent number).to < count

-- this is the first message from a number on that waits, or the number behind all messages
pub record IsNextWaiting (sent : List Posting) (downs : List Bool) (from number : ℕ) : Type 0 where
  pub from_on : from ≤ number
  pub within : number ≤ length sent
  pub waits : number < length sent → waits_in sent downs number ≡ true
  pub passed : (older : ℕ) → from ≤ older → older < number → waits_in sent downs older ≡ false

pub record IsFirst (sent : List Posting) (actor number : ℕ) : Type 0 where
  pub is_open : IsOpenTo sent actor number
  pub oldest : (older : ℕ) → older < number → ¬ IsOpenTo sent actor older

-- the first open message to the actor that has a lesser number than `first`, if the actor is up and has one
abbrev pub IsHead : List Posting → ℕ → ℕ → Bool → ℕ → Type 0
IsHead sent first actor true head = head ≡ none
IsHead sent first actor false head = ((head ≡ none) × ((number : ℕ) → number < first → ¬ IsOpenTo sent actor number)) ⊎ (IsFirst sent actor head × (head < first))

-- each message goes to an actor that has room, each of these actors has its head, and `first` is the number of a message that waits, or
-- that behind all messages
pub record Kept (mail : Mail) (downs : List Bool) (heads : List ℕ) (first : ℕ) : Type 0 where
  pub early : mail.early ≡ []
  pub takings : mail.takings ≡ 0
  pub tree : IsTree (length downs) heads
  pub covered : AreCovered mail.sent (length downs)
  pub within : first ≤ length mail.sent
  pub waits : first < length mail.sent → waits_in mail.sent downs first ≡ true
  pub heads_are : (actor : ℕ) → actor < length downs → IsHead mail.sent first actor (is_down_at downs actor) (leaf (length downs) heads actor)
