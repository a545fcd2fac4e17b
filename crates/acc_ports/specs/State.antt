-- What contracts see of a disk at a moment, but for what a crash may leave.
use Rattle.std.specs.Prelude.{ℕ, Bool, List, Option}

-- A place and a count of bytes from there on.
abbrev pub Ranges : Type 0
Ranges = List (ℕ × ℕ)

pub record DiskState : Type 0 where
  -- what a read gives
  pub content : List ℕ
  -- how often the outside has failed: no call lowers it; kept in 64 bits, at whose end it stands still
  pub faults : ℕ
  -- the time, which no call sets back
  pub clock : ℕ
  -- whether the disk is strict: only its armed call fails, and a crash leaves what is chosen. No call changes it. The next three speak
  -- of strict disks alone
  pub strict : Bool
  -- how many calls still pass before the armed one, where one is armed
  pub armed : Option ℕ
  -- the content at the last sync
  pub synced : List ℕ
  -- the ranges that were written since, those of calls that failed included
  pub written : Ranges
