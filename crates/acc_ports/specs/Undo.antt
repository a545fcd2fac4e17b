-- How writes are taken back. The newest of them stands first.
use Rattle.std.specs.Prelude.{ℕ, ◌+◌, ◌≤◌, List, [], ◌∷◌, length, take, map, reverse}
use Rattle.acc_ports.specs.declared.surface.Write.{Write}
use Rattle.acc_ports.specs.Disk.{overwritten}
use Rattle.acc_ports.specs.State.{Ranges}
use Rattle.acc_ports.specs.Strict.{IsImage}

-- the content before a write
abbrev pub taken_back : Write → List ℕ → List ℕ
taken_back write content = take write.before (overwritten write.at write.saved content)

abbrev pub undone : List Write → List ℕ → List ℕ
undone [] content = content
undone (write ∷ earlier) content = undone earlier (taken_back write content)

-- The bytes that each write saved lie inside what stood there before it, and that inside what stands there now.
abbrev pub CanUndo : List Write → List ℕ → Type 0
CanUndo [] content = Unit {0}
CanUndo (write ∷ earlier) content = (write.at + length write.saved ≤ write.before) × (write.before ≤ length content) × CanUndo earlier (taken_back write content)

-- the content at the last sync; the newest write stands last
abbrev pub synced_of : List Write → List ℕ → List ℕ
synced_of writes content = undone (reverse writes) content

abbrev pub ranges_of : List Write → Ranges
ranges_of writes = map (λ (write : Write). (write.at, write.count)) writes

-- The writes can be taken back, and what stands there now is what a crash may leave.
pub record CanCrash (writes : List Write) (content : List ℕ) : Type 0 where
  pub undo : CanUndo (reverse writes) content
  pub image : IsImage (synced_of writes content) (ranges_of writes) content
