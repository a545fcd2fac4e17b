-- What calls of a journal do to its disk, which is of a kind that `port` tells of. An answer is that of the disk.
use Rattle.std.specs.Prelude.{◌≡◌, ℕ, zero, suc, ◌<◌, IsTrue, List, ◌++◌, Option, None, Some, Result, Ok, Err, OnOk, IsErr, IsErrOf}
use Rattle.acc_ports.specs.declared.error.PortError.{PortError}
use Rattle.acc_ports.specs.declared.error.PortError.TheVariants as error
use Rattle.acc_ports.specs.declared.disk.Disk.{Ghosts}
use Rattle.acc_ports.specs.State.{DiskState}
use Rattle.acc_ports.specs.Faults.{CountsFaults}
use Rattle.acc_ports.specs.Strict.{after_call, WithMemory}
use Rattle.acc_ports.specs.Disk.{Only, IsAtRest, CrashLeaves}
use Rattle.acc_ports.specs.Moments.{LeavesOnly}
use Rattle.acc_journal.specs.declared.error.JournalError.{JournalError}
use Rattle.acc_journal.specs.Errors.{port_error}
use Rattle.acc_journal.specs.Layout.{Reads}
use Rattle.acc_journal.specs.Journal.{ReadsAsEither, left_by_choice}

-- how a call ended, or several in a row
abbrev pub Answer : Type 0
Answer = Result (Unit {0}) PortError

abbrev pub ending_of : {T : Type 0} → Result T PortError → Answer
ending_of (Ok value) = Ok tt
ending_of (Err refused) = Err refused

-- what stands for the answer of the disk, where the journal answered this: an error that is no fault of the disk counts as want of
-- memory
abbrev pub journal_answer : {T : Type 0} → Result T JournalError → Answer
journal_answer (Ok value) = Ok tt
journal_answer (Err refused) = Err (port_error refused)

-- ---- several calls in a row

-- how many calls still pass before the armed one, after so many more
abbrev pub after_calls : ℕ → Option ℕ → Option ℕ
after_calls zero armed = armed
after_calls (suc calls) armed = after_call (after_calls calls armed)

-- The armed call is one of the next calls.
abbrev pub FailsWithin : ℕ → Option ℕ → Type 0
FailsWithin calls None = ⊥
FailsWithin calls (Some passed) = passed < calls

-- On a strict disk the armed one of so many calls fails, and no other does.
pub record FailsIn (calls : ℕ) (before after : DiskState) (answer : Answer) : Type 0 where
  pub counts : OnOk answer (after.armed ≡ after_calls calls before.armed)
  pub early : FailsWithin calls before.armed → IsErr answer
  pub late : ¬ FailsWithin calls before.armed → IsErrOf answer error.Failed → ⊥

-- what so many calls in a row promise, whatever they do
pub record Asks {D : Type 0} (port : Ghosts D) (calls : ℕ) (old new : D) (answer : Answer) : Type 0 where
  pub kind : (port.state new).strict ≡ (port.state old).strict
  pub faults : CountsFaults (IsErrOf answer error.Failed) (port.state old).faults (port.state new).faults
  pub strict : IsTrue (port.state old).strict → FailsIn calls (port.state old) (port.state new) answer

-- ---- what a journal asks of its disk

-- A disk at rest is read in two calls, and nothing is written. It is at rest still, where it isn't memory that was missing.
pub record ReadsDisk {D : Type 0} (port : Ghosts D) (old new : D) (answer : Answer) : Type 0 where
  pub content : (port.state new).content ≡ (port.state old).content
  pub only : Only (port.state old).content (port.is_image new)
  pub rest : WithMemory answer (IsAtRest (port.state new) (port.is_image new))
  pub any_moment : LeavesOnly port old new (λ image. image ≡ (port.state old).content)
  pub calls : Asks port 2 old new answer

-- What an append of a group promises, in four calls. Once it is acknowledged each crash leaves the whole group. A crash at any moment
-- leaves all of it or nothing. And where the armed call of a strict disk failed it is known which of both.
pub record Appends {D : Type 0} (port : Ghosts D) (old new : D) (before group : List (List ℕ)) (answer : Answer) : Type 0 where
  pub lasts : OnOk answer ((image : List ℕ) → port.is_image new image → Reads image (before ++ group))
  pub any_moment : LeavesOnly port old new (ReadsAsEither before group)
  pub calls : Asks port 4 old new answer
  pub failed : IsTrue (port.state old).strict → IsErrOf answer error.Failed → (choice : ℕ) (left : List ℕ) → CrashLeaves choice (port.state new) left
      → Reads left (left_by_choice (port.state old).armed choice before group)
