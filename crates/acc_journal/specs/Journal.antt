-- A journal, as contracts see it.
use Rattle.std.specs.Prelude.{◌≡◌, ◌⊎◌, ℕ, ◌+◌, ◌-◌, ◌*◌, ◌^◌, ◌<◌, Bool, false, List, [], ◌∷◌, ◌++◌, length, sum_by, Option, None, Some, ◌==◌, ◌&&◌, if◌then◌else◌}
use Rattle.acc_ports.specs.State.{DiskState}
use Rattle.acc_ports.specs.Disk.{overwritten, IsAtRest}
use Rattle.acc_journal.specs.declared.error.JournalError.{JournalError}
use Rattle.acc_journal.specs.declared.error.JournalError.TheVariants as errors
use Rattle.acc_journal.specs.Layout.{records, AreShort, Reads, IsForeign, IsCut, payloads_of}

pub record JournalState (D : Type 0) : Type 0 where
  -- the disk under it
  pub disk : D
  -- the payloads that it stands for
  pub payloads : List (List ℕ)
  -- how long a payload can be whose append takes no memory of the journal's own
  pub spare : ℕ
  -- whether a call of the disk failed or found no memory
  pub broken : Bool

-- how much room a group of payloads takes: their lengths, and five bytes for each after the first
abbrev pub group_room : List (List ℕ) → ℕ
group_room payloads = sum_by length payloads + 5 * (length payloads - 1)

-- The bytes read as the payloads before an append, or as those with the whole group.
abbrev pub ReadsAsEither : List (List ℕ) → List (List ℕ) → List ℕ → Type 0
ReadsAsEither before group bytes = Reads bytes before ⊎ Reads bytes (before ++ group)

-- The bytes read as these payloads, whose closed gate is at this place.
pub record HasGateAt (bytes : List ℕ) (payloads : List (List ℕ)) (place : ℕ) : Type 0 where
  pub reads : Reads bytes payloads
  pub at : place ≡ 1 + length (records payloads)

-- These bytes, with an open gate in front, are the records of a group and a closed gate.
pub record IsGroup (group : List (List ℕ)) (bytes : List ℕ) : Type 0 where
  pub short : AreShort group
  pub spelled : 1 ∷ bytes ≡ records group ++ 0 ∷ []

-- A journal that isn't broken: its disk is at rest, and reads as payloads whose closed gate is at this place.
pub record IsSettled (disk : DiskState) (images : List ℕ → Type 0) (gate : ℕ) : Type 0 where
  pub fits : length disk.content < 2 ^ 64
  pub has_gate : HasGateAt disk.content (payloads_of disk.content) gate
  pub rest : IsAtRest disk images

-- whether a crash by choice keeps the group of an append whose armed call failed: only where the last of its four calls
-- did, the second sync, and the crash leaves what a read gives
abbrev pub keeps_group : Option ℕ → ℕ → Bool
keeps_group None choice = false
keeps_group (Some passed) choice = (passed == 3) && (choice == 1)

-- what a crash by choice leaves of an append whose armed call failed
abbrev pub left_by_choice : Option ℕ → ℕ → List (List ℕ) → List (List ℕ) → List (List ℕ)
left_by_choice armed choice before group = if keeps_group armed choice then before ++ group else before

-- Of a write and its sync on a strict disk at rest, one failed: the write, or the sync after it.
pub record FailedHalfWay (at : ℕ) (bytes : List ℕ) (before after : DiskState) : Type 0 where
  pub all_synced : after.synced ≡ before.content
  pub one_written : after.written ≡ (at, length bytes) ∷ []
  pub which : ((before.armed ≡ Some 0) × (after.content ≡ before.content)) ⊎ ((before.armed ≡ Some 1) × (after.content ≡ overwritten at bytes before.content))

-- Bytes are refused with this error.
abbrev pub IsRefused : List ℕ → JournalError → Type 0
IsRefused bytes errors.DiskFault = Unit {0}
IsRefused bytes (errors.BadVersion version) = IsForeign bytes version
IsRefused bytes (errors.BadRecord place) = IsCut bytes place
IsRefused bytes errors.OutOfMemory = Unit {0}

-- No error that speaks of the bytes.
abbrev pub IsOfTheDisk : JournalError → Type 0
IsOfTheDisk errors.DiskFault = Unit {0}
IsOfTheDisk (errors.BadVersion version) = ⊥
IsOfTheDisk (errors.BadRecord place) = ⊥
IsOfTheDisk errors.OutOfMemory = Unit {0}
