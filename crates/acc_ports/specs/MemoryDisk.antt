-- A disk in memory, as contracts see it.
use Rattle.std.specs.Prelude.{◌≡◌, ◌⊎◌, ◌↔◌, ℕ, ◌≤◌, List, [], ◌∷◌, ◌++◌, length, drop, if◌then◌else◌, Option, Some, is_none, IsSomeAnd, Contains, Result, is_err, IsErr, IsErrOf, OnOk, OnErr}
use Rattle.std.proofs.Common.{inl, inr}
use Rattle.acc_ports.specs.declared.error.PortError.{PortError}
use Rattle.acc_ports.specs.declared.error.PortError.TheVariants as error
use Rattle.acc_ports.specs.State.{Ranges, DiskState}
use Rattle.acc_ports.specs.Faults.{next_count}
use Rattle.acc_ports.specs.Strict.{IsImage, after_call, WithMemory}
use Rattle.acc_ports.specs.Disk.{overwritten}

-- what stands on a disk at a moment
pub record DiskBytes : Type 0 where
  -- what a read gives
  pub content : List ℕ
  -- the content at the last sync
  pub synced : List ℕ
  -- the ranges that were written since, also by calls that failed
  pub written : Ranges

abbrev pub IsImageOf : DiskBytes → List ℕ → Type 0
IsImageOf disk image = IsImage disk.synced disk.written image

-- at rest: all of it is synced
abbrev pub settled_on : List ℕ → DiskBytes
settled_on content = record { content = content; synced = content; written = [] }

-- after bytes were written at a place
abbrev pub after_write : ℕ → List ℕ → DiskBytes → DiskBytes
after_write at bytes old = record { content = overwritten at bytes old.content; synced = old.synced; written = old.written ++ (at, length bytes) ∷ [] }

-- after a write of so many bytes that failed
abbrev pub after_failed_write : ℕ → ℕ → DiskBytes → DiskBytes
after_failed_write at count old = record old { written = old.written ++ (at, count) ∷ [] }

pub record MemoryDisk : Type 0 where
  pub now : DiskBytes
  -- earlier ones, oldest first
  pub past : List DiskBytes
  -- how many calls still pass before the armed one, where one is armed
  pub armed : Option ℕ
  -- the numbers of the calls that fail besides, where they are listed
  pub fails : Option (List ℕ)
  -- the number of the next call: how many there were
  pub calls : ℕ
  -- how many of them failed
  pub faults : ℕ

-- A call fails: it is the armed one, or its number is listed.
abbrev pub MustFail : Option ℕ → Option (List ℕ) → ℕ → Type 0
MustFail armed fails calls = (armed ≡ Some 0) ⊎ IsSomeAnd fails (λ listed. Contains listed calls)

-- what contracts of all disks see of it
abbrev pub state_of : MemoryDisk → DiskState
state_of disk = record {
  content = disk.now.content;
  faults = disk.faults;
  clock = length disk.past;
  strict = is_none disk.fails;
  armed = disk.armed;
  synced = disk.now.synced;
  written = disk.now.written;
}

-- A call of it is counted, and so is its failure, which comes just where it must. One that found no memory changed nothing.
pub record IsCounted {T : Type 0} (old new : MemoryDisk) (result : Result T PortError) : Type 0 where
  pub fails : WithMemory result (IsErr result ↔ MustFail old.armed old.fails old.calls)
  pub calls : WithMemory result (new.calls ≡ next_count old.calls)
  pub armed : WithMemory result (new.armed ≡ after_call old.armed)
  pub faults : WithMemory result (new.faults ≡ (if is_err result then next_count old.faults else old.faults))
  pub listed : new.fails ≡ old.fails
  pub no_memory : IsErrOf result error.OutOfMemory → new ≡ old

-- Its bytes stand as they did.
pub record KeepsBytes (old new : MemoryDisk) : Type 0 where
  pub now : new.now ≡ old.now
  pub past : new.past ≡ old.past

-- What a write does to its bytes. One that failed wrote none, and its range counts as written.
pub record WritesBytes (at : ℕ) (bytes : List ℕ) (old new : MemoryDisk) (result : Result (Unit {0}) PortError) : Type 0 where
  pub ok : OnOk result (new.now ≡ after_write at bytes old.now)
  pub failed : IsErrOf result error.Failed → new.now ≡ after_failed_write at (length bytes) old.now
  pub past : WithMemory result (new.past ≡ old.past ++ old.now ∷ [])

-- What a sync does to them. One that failed left them.
pub record SyncsBytes (old new : MemoryDisk) (result : Result (Unit {0}) PortError) : Type 0 where
  pub ok : OnOk result (new.now ≡ settled_on old.now.content)
  pub past : OnOk result (new.past ≡ old.past ++ old.now ∷ [])
  pub failed : OnErr result (KeepsBytes old new)

-- bytes are an image of one of these states
abbrev pub WereImage : List DiskBytes → List ℕ → Type 0
WereImage [] image = ⊥
WereImage (bytes ∷ past) image = IsImageOf bytes image ⊎ WereImage past image

-- bytes that a crash might have left since a moment, which is counted by the states before it
abbrev pub WasImage : MemoryDisk → ℕ → List ℕ → Type 0
WasImage disk moment image = IsImageOf disk.now image ⊎ WereImage (drop moment disk.past) image

none_left : (past : List DiskBytes) (image : List ℕ) → WereImage (drop (length past) past) image → ⊥
none_left [] image were = were
none_left (bytes ∷ past) image were = none_left past image were

pub counts_now : (disk : MemoryDisk) (moment : ℕ) (image : List ℕ) → moment ≤ length disk.past → IsImageOf disk.now image → WasImage disk moment image
counts_now disk moment image le now = inl now

-- Since the present moment there is nothing but what stands there now.
pub only_now : (disk : MemoryDisk) (image : List ℕ) → WasImage disk (length disk.past) image → IsImageOf disk.now image
only_now disk image (inl now) = now
only_now disk image (inr were) = absurd (none_left disk.past image were)
