-- What a run of calls of a disk leaves, and a crash of it. A disk is of a kind that `port` tells of.
use Rattle.std.specs.Prelude.{◌≡◌, ◌⊎◌, ℕ, ◌≤◌, IsTrue, List, [], ◌∷◌, None, Some, Result, OnOk}
use Rattle.acc_base.specs.declared.memory.OutOfMemory.{OutOfMemory}
use Rattle.acc_ports.specs.declared.disk.Disk.{Ghosts}
use Rattle.acc_ports.specs.Disk.{NoFurther, Stands, Elapses, IsAtRest, CrashLeaves}

-- A crash at any moment since an old state of a disk leaves bytes with a property.
pub record LeavesOnly {D : Type 0} (port : Ghosts D) (old new : D) (P : List ℕ → Type 0) : Type 0 where
  pub later : (port.state old).clock ≤ (port.state new).clock
  pub each : (image : List ℕ) → port.was_image new (port.state old).clock image → P image
  -- for a run of calls that began earlier
  pub before : (moment : ℕ) (image : List ℕ) → moment ≤ (port.state old).clock → port.was_image new moment image → port.was_image old moment image ⊎ P image

-- A new disk holds the two bytes 1 and 0, synced, has counted no fault, and nothing is armed.
pub record IsFresh {D : Type 0} (port : Ghosts D) (disk : D) : Type 0 where
  pub content : (port.state disk).content ≡ 1 ∷ 0 ∷ []
  pub rest : IsAtRest (port.state disk) (port.is_image disk)
  pub faults : (port.state disk).faults ≡ 0
  pub armed : (port.state disk).armed ≡ None

-- A crash leaves one of the images, at rest and with nothing armed. It is no fault.
pub record Crashes {D : Type 0} (port : Ghosts D) (choice : ℕ) (old new : D) (result : Result (Unit {0}) OutOfMemory) : Type 0 where
  pub left : OnOk result (port.is_image old (port.state new).content)
  pub rest : OnOk result (IsAtRest (port.state new) (port.is_image new))
  pub disarmed : OnOk result ((port.state new).armed ≡ None)
  pub by_choice : IsTrue (port.state old).strict → OnOk result (CrashLeaves choice (port.state old) (port.state new).content)
  pub images : NoFurther (port.is_image old) (port.is_image new)
  pub stands : Stands (port.state new).content (port.is_image new)
  pub time : Elapses (port.state old).clock (port.state new).clock (port.was_image old) (port.was_image new) (port.is_image new)
  pub kind : (port.state new).strict ≡ (port.state old).strict
  pub faults : (port.state new).faults ≡ (port.state old).faults

-- A call of a strict disk is armed, and nothing else changes.
pub record Arms {D : Type 0} (port : Ghosts D) (calls : ℕ) (old new : D) : Type 0 where
  pub armed : IsTrue (port.state old).strict → (port.state new).armed ≡ Some calls
  pub same : port.state new ≡ record (port.state old) { armed = (port.state new).armed }
  pub images : NoFurther (port.is_image old) (port.is_image new)
  pub no_fewer : NoFurther (port.is_image new) (port.is_image old)
  pub time : Elapses (port.state old).clock (port.state new).clock (port.was_image old) (port.was_image new) (port.is_image new)
