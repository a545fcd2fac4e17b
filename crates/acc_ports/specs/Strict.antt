-- A strict disk: it fails at the armed call alone, and a crash leaves of it what was chosen.
use Rattle.std.specs.Prelude.{◌≡◌, ◌≢◌, ℕ, ◌+◌, ◌-◌, ◌<◌, ◌≤◌, max, nat_le, nat_lt, ◌==◌, ◌&&◌, Bool, false, if◌then◌else◌, List, [], ◌∷◌, length, slice_index, Option, None, Some, Result, Ok, Err, IsErr, IsErrOf, MatchBool}
use Rattle.std.specs.List.{list_any}
use Rattle.acc_ports.specs.declared.error.PortError.{PortError}
use Rattle.acc_ports.specs.declared.error.PortError.TheVariants as error
use Rattle.acc_ports.specs.State.{Ranges}

-- whether a place is in one of the ranges
abbrev pub is_within : Ranges → ℕ → Bool
is_within ranges place = list_any (λ (range : ℕ × ℕ). nat_le range.0 place && nat_lt place (range.0 + range.1)) ranges

-- the greatest of a number and the ends of the ranges
abbrev pub extent : ℕ → Ranges → ℕ
extent least [] = least
extent least (range ∷ ranges) = extent (max least (range.0 + range.1)) ranges

-- What a crash may leave, where these bytes were the content at the last sync and these ranges were written since: the
-- bytes of these ranges and all past the old end may be any, the others are as they were. No byte gets lost.
pub record IsImage (synced : List ℕ) (written : Ranges) (image : List ℕ) : Type 0 where
  pub no_shorter : length synced ≤ length image
  pub no_longer : length image ≤ extent (length synced) written
  pub kept : (k : ℕ) → k < length synced → is_within written k ≡ false → slice_index image k ≡ slice_index synced k

-- The new bytes are the old ones, with one byte at each place of the ranges.
pub record IsFilled (byte : ℕ) (ranges : Ranges) (old new : List ℕ) : Type 0 where
  pub same_length : length new ≡ length old
  pub each : (k : ℕ) → k < length old → slice_index new k ≡ (if is_within ranges k then byte else slice_index old k)

-- What a crash leaves by choice: at 0 the content of the last sync, at 1 what a read gives, and at any other choice what a
-- read gives, with the choice in place of each byte that was written since the last sync.
abbrev pub LeftByChoice : ℕ → List ℕ → List ℕ → Ranges → List ℕ → Type 0
LeftByChoice choice content synced written left =
    MatchBool (choice == 0) (left ≡ synced) (MatchBool (choice == 1) (left ≡ content) (IsFilled choice written content left))

-- the number of calls that still pass before the armed one, after one more call; once that one has come, none is armed
abbrev pub after_call : Option ℕ → Option ℕ
after_call None = None
after_call (Some calls) = if calls == 0 then None else Some (calls - 1)

-- A fact of a call that found the memory that it asked for.
abbrev pub WithMemory : {T : Type 0} → Result T PortError → Type 0 → Type 0
WithMemory (Ok answer) P = P
WithMemory (Err error.Failed) P = P
WithMemory (Err error.OutOfMemory) P = Unit {0}

-- A call fails where it is the armed one, and no other does. One that found its memory is counted.
pub record FailsArmed {T : Type 0} (armed left : Option ℕ) (result : Result T PortError) : Type 0 where
  pub fails : armed ≡ Some 0 → IsErr result
  pub passes : armed ≢ Some 0 → IsErrOf result error.Failed → ⊥
  pub counts : WithMemory result (left ≡ after_call armed)
