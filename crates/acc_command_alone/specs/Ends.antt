-- How a command ends: what a sink holds after a text that was due, and what was taken from a source.
use Rattle.std.specs.Prelude.{◌≡◌, ◌≢◌, ◌⊎◌, ℕ, ◌+◌, List, length, Option, IfSome}
use Rattle.acc_ports.specs.Faults.{Rose}
use Rattle.acc_ports.specs.Sink.{followed_by, WritesPart}
use Rattle.acc_ports.specs.Source.{without_first, none_left, TakesAtMost, ReadsOn, ReadsToEnd}
use Rattle.acc_command_alone.specs.Streams.{Streams}
use Rattle.acc_command_alone.specs.declared.status.Status.{Status}
use Rattle.acc_command_alone.specs.declared.status.Status.TheVariants.{Done, No, Usage, ReadFault, WriteFault, BadInput, Limit, OutOfMemory}

abbrev pub code_of : Status → ℕ
code_of Done = 0
code_of No = 1
code_of Usage = 2
code_of ReadFault = 3
code_of WriteFault = 4
code_of BadInput = 5
code_of Limit = 6
code_of OutOfMemory = 7

-- the most bytes that a document may have
abbrev pub document_limit : ℕ
document_limit = 16777216

-- ---- what is written

-- what a sink holds after a text that was due with a status: the whole text, or with a write fault or want of memory a part
abbrev pub Writes : (Status → List ℕ → Type 0) → Status → Option (List ℕ) → Option (List ℕ) → Type 0
Writes P status old new = (text : List ℕ) × P status text × (new ≡ followed_by text old)

abbrev pub WritesLess : (Status → List ℕ → Type 0) → Option (List ℕ) → Option (List ℕ) → Type 0
WritesLess P old new = (status : Status) × (text : List ℕ) × P status text × WritesPart text old new

abbrev pub Ends : (Status → List ℕ → Type 0) → Status → Option (List ℕ) → Option (List ℕ) → Type 0
Ends P Done old new = Writes P Done old new
Ends P No old new = Writes P No old new
Ends P Usage old new = Writes P Usage old new
Ends P ReadFault old new = new ≡ old
Ends P WriteFault old new = WritesLess P old new
Ends P BadInput old new = Writes P BadInput old new
Ends P Limit old new = Writes P Limit old new
Ends P OutOfMemory old new = (new ≡ old) ⊎ WritesLess P old new

-- a text was written with its status, or the sink failed or had no memory before the end
abbrev pub Says : Status → List ℕ → Status → Option (List ℕ) → Option (List ℕ) → Type 0
Says status text result old new =
    ((result ≡ status) × (new ≡ followed_by text old))
    ⊎ (((result ≡ WriteFault) ⊎ (result ≡ OutOfMemory)) × WritesPart text old new)

-- ---- what is read

-- What is left of the source: all after the byte past the limit, which is nothing where the document was read whole; with a fault of
-- the source or want of memory no less than that.
abbrev pub Leaves : Status → Option (List ℕ) → Option (List ℕ) → Type 0
Leaves Done old new = (new ≡ none_left old) × (new ≡ without_first (document_limit + 1) old)
Leaves No old new = (new ≡ none_left old) × (new ≡ without_first (document_limit + 1) old)
Leaves Usage old new = ⊥
Leaves ReadFault old new = TakesAtMost (document_limit + 1) old new
Leaves WriteFault old new = new ≡ without_first (document_limit + 1) old
Leaves BadInput old new = (new ≡ none_left old) × (new ≡ without_first (document_limit + 1) old)
Leaves Limit old new = new ≡ without_first (document_limit + 1) old
Leaves OutOfMemory old new = TakesAtMost (document_limit + 1) old new

-- Which reads there were, where the source tells them: they gave so many bytes together, and the last one alone gave nothing, where the
-- whole document was judged, and each one gave something where the source failed; else either.
abbrev pub ReadsFor : ℕ → Status → Option (List ℕ) → Option (List ℕ) → Type 0
ReadsFor total Done old new = ReadsToEnd total old new
ReadsFor total No old new = ReadsToEnd total old new
ReadsFor total Usage old new = ⊥
ReadsFor total ReadFault old new = ReadsOn old new
ReadsFor total WriteFault old new = ReadsOn old new ⊎ ReadsToEnd total old new
ReadsFor total BadInput old new = ReadsToEnd total old new
ReadsFor total Limit old new = ReadsOn old new ⊎ ReadsToEnd total old new
ReadsFor total OutOfMemory old new = ReadsOn old new ⊎ ReadsToEnd total old new

-- ---- a document

-- It ends as is due on a document that the source gives: on the bytes that it tells, and where it tells none on some, as many as its reads
-- gave if it tells these.
pub record EndsOnSome (DueOn : List ℕ → Status → List ℕ → Type 0) (before after : Streams) (status : Status) : Type 0 where
  pub bytes : List ℕ
  pub given : IfSome before.left (λ told. bytes ≡ told)
  pub reads : ReadsFor (length bytes) status before.reads after.reads
  pub ends : Ends (DueOn bytes) status before.written after.written

-- ---- faults

-- Where the status tells of a fault, the source or the sink counted one, and where it doesn't, none. After a fault of the source nothing
-- was written.
pub record TellsFaults (before after : Streams) (status : Status) : Type 0 where
  pub read_fault : status ≡ ReadFault → Rose before.read_faults after.read_faults
  pub read_first : status ≢ ReadFault → after.read_faults ≡ before.read_faults
  pub unwritten : status ≡ ReadFault → after.written ≡ before.written
  pub write_fault : status ≡ WriteFault → Rose before.write_faults after.write_faults
  pub no_write_fault : status ≢ WriteFault → after.write_faults ≡ before.write_faults

-- a fact of what the source tells, where no port failed
abbrev pub WithoutFaults : Streams → Streams → (List ℕ → Type 0) → Type 0
WithoutFaults before after P =
    ¬ (Rose before.read_faults after.read_faults) → ¬ (Rose before.write_faults after.write_faults) → IfSome before.left P
