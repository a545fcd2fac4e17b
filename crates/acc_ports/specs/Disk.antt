-- What the calls of a disk do to its content, and what a crash may leave of it.
use Rattle.std.specs.Prelude.{◌≡◌, ◌⊎◌, ℕ, ◌+◌, ◌^◌, ◌<◌, ◌≤◌, max, IsTrue, List, [], ◌∷◌, ◌++◌, length, take, drop, slice_index, Result, OnOk, IsErrOf}
use Rattle.acc_ports.specs.declared.error.PortError.{PortError}
use Rattle.acc_ports.specs.declared.error.PortError.TheVariants as error
use Rattle.acc_ports.specs.Faults.{CountsFaults}
use Rattle.acc_ports.specs.State.{DiskState}
use Rattle.acc_ports.specs.Strict.{WithMemory, FailsArmed, LeftByChoice}

-- the old bytes with others written at a place, over what stood there and past the end
abbrev pub overwritten : ℕ → List ℕ → List ℕ → List ℕ
overwritten at bytes old = take at old ++ bytes ++ drop (at + length bytes) old

-- What a crash may make of the old bytes once so many are being written at a place: these and all past the old end may be
-- any bytes, the others are as they were. No byte gets lost.
pub record Torn (at count : ℕ) (old new : List ℕ) : Type 0 where
  pub no_shorter : length old ≤ length new
  pub no_longer : length new ≤ max (length old) (at + count)
  pub kept : (k : ℕ) → k < length old → (k < at) ⊎ (at + count ≤ k) → slice_index new k ≡ slice_index old k

-- Each of the new images is one of the old ones after a step.
abbrev pub Follows : (List ℕ → List ℕ → Type 0) → (List ℕ → Type 0) → (List ℕ → Type 0) → Type 0
Follows step old new = (image : List ℕ) → new image → (before : List ℕ) × old before × step before image

-- There is no further image.
abbrev pub NoFurther : (List ℕ → Type 0) → (List ℕ → Type 0) → Type 0
NoFurther old new = (image : List ℕ) → new image → old image

-- These bytes are the only image.
abbrev pub Only : List ℕ → (List ℕ → Type 0) → Type 0
Only bytes images = (image : List ℕ) → images image → image ≡ bytes

-- What holds of a disk whenever a call has ended: its content has a length, and a crash may leave just it.
pub record Stands (content : List ℕ) (images : List ℕ → Type 0) : Type 0 where
  pub fits : length content < 2 ^ 64
  pub readable : images content

-- Time goes on: a crash since a moment might have left what it might have left before, or what it may leave now.
pub record Elapses (before now : ℕ) (past since : ℕ → List ℕ → Type 0) (images : List ℕ → Type 0) : Type 0 where
  pub later : before ≤ now
  pub nothing_else : (moment : ℕ) (image : List ℕ) → moment ≤ before → since moment image → past moment image ⊎ images image
  pub keeps : (moment : ℕ) (image : List ℕ) → moment ≤ before → past moment image → since moment image

-- A disk is at rest: a crash leaves what a read gives, and nothing was written since the last sync.
pub record IsAtRest (disk : DiskState) (images : List ℕ → Type 0) : Type 0 where
  pub only : Only disk.content images
  pub all_synced : IsTrue disk.strict → disk.synced ≡ disk.content
  pub none_written : IsTrue disk.strict → disk.written ≡ []

-- A crash by choice may leave these bytes of a strict disk.
abbrev pub CrashLeaves : ℕ → DiskState → List ℕ → Type 0
CrashLeaves choice disk left = LeftByChoice choice disk.content disk.synced disk.written left

-- ---- calls

-- What each call promises, whatever it is to do.
pub record EachCall {T : Type 0} (before after : DiskState) (past since : ℕ → List ℕ → Type 0) (images : List ℕ → Type 0) (result : Result T PortError) : Type 0 where
  pub stands : Stands after.content images
  pub time : Elapses before.clock after.clock past since images
  pub kind : after.strict ≡ before.strict
  pub faults : CountsFaults (IsErrOf result error.Failed) before.faults after.faults
  pub armed : IsTrue before.strict → FailsArmed before.armed after.armed result

-- No byte of it changed.
pub record SameBytes (before after : DiskState) : Type 0 where
  pub content : after.content ≡ before.content
  pub synced : after.synced ≡ before.synced
  pub written : after.written ≡ before.written

-- A call that only reads changes no byte.
pub record OnlyReads {T : Type 0} (before after : DiskState) (result : Result T PortError) : Type 0 where
  pub content : OnOk result (after.content ≡ before.content)
  pub strict : IsTrue before.strict → WithMemory result (SameBytes before after)

-- Bytes are written at a place. On a strict disk one that failed wrote none of them, and its range counts as written.
pub record Writes (at : ℕ) (bytes : List ℕ) (before after : DiskState) (result : Result (Unit {0}) PortError) : Type 0 where
  pub content : OnOk result (after.content ≡ overwritten at bytes before.content)
  pub strict_failed : IsTrue before.strict → IsErrOf result error.Failed → after.content ≡ before.content
  pub strict : IsTrue before.strict → WithMemory result ((after.synced ≡ before.synced) × (after.written ≡ before.written ++ (at, length bytes) ∷ []))

-- All that was written is synced. On a strict disk one that failed changed no byte.
pub record Syncs (before after : DiskState) (images : List ℕ → Type 0) (result : Result (Unit {0}) PortError) : Type 0 where
  pub content : OnOk result (after.content ≡ before.content)
  pub rest : OnOk result (IsAtRest after images)
  pub strict_failed : IsTrue before.strict → IsErrOf result error.Failed → SameBytes before after
