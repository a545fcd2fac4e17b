-- A maker of disks in memory, as contracts see it.
use Rattle.std.specs.Prelude.{ℕ, ◌==◌, if◌then◌else◌, List, [], ◌∷◌, Option, Some, None}
use Rattle.acc_base.specs.Faults.{or_else}
use Rattle.acc_ports.specs.MemoryDisk.{MemoryDisk, settled_on}

pub record MemoryMaker : Type 0 where
  -- the number whose disks fail at listed calls, and these
  pub listed : Option (ℕ × List ℕ)
  -- the disks that were given back, each with its number
  pub given : List (ℕ × MemoryDisk)

-- the calls that fail of a disk that is made under a number, where they are listed
abbrev pub listed_for : ℕ → Option (ℕ × List ℕ) → Option (List ℕ)
listed_for number None = None
listed_for number (Some listed) = if listed.0 == number then Some listed.1 else None

-- a disk whose calls of these numbers fail, before its first call
abbrev pub made : Option (List ℕ) → MemoryDisk
made fails = record { now = settled_on (1 ∷ 0 ∷ []); past = []; armed = None; fails = fails; calls = 0; faults = 0 }

-- the content of the last disk that was given back under a number
abbrev pub last_content : ℕ → List (ℕ × MemoryDisk) → Option (List ℕ)
last_content number [] = None
last_content number (back ∷ later) = or_else (last_content number later) (if back.0 == number then Some back.1.now.content else None)
