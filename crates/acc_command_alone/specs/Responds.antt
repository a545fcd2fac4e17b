-- What a command does that reads a document, and the two halves of it.
use Rattle.std.specs.Prelude.{◌≡◌, ◌≢◌, ◌<◌, ◌≤◌, ℕ, List, length, Option, IfSome, Result, Ok, Err}
use Rattle.acc_base.specs.declared.memory.OutOfMemory.{OutOfMemory as NoMemory}
use Rattle.acc_ports.specs.Source.{none_left, ReadsToEnd}
use Rattle.acc_command_alone.specs.Streams.{Streams}
use Rattle.acc_command_alone.specs.Ends.{document_limit, EndsOnSome, Leaves, Says, TellsFaults, WithoutFaults}
use Rattle.acc_command_alone.specs.Lines.{document_limit_text, line}
use Rattle.acc_command_alone.specs.declared.reply.Reply.{Reply}
use Rattle.acc_command_alone.specs.declared.status.Status.{Status}
use Rattle.acc_command_alone.specs.declared.status.Status.TheVariants.{Done, No, Usage, ReadFault, WriteFault, BadInput, Limit, OutOfMemory}

-- It ends as is due on what the source gives, tells of faults, and where no port fails it does its work on each document that isn't too
-- long.
pub record Responds (DueOn : List ℕ → Status → List ℕ → Type 0) (DoesOn : List ℕ → Status → Type 0) (before after : Streams) (status : Status) : Type 0 where
  pub ends : EndsOnSome DueOn before after status
  pub words : status ≢ Usage
  pub leaves : Leaves status before.left after.left
  pub faults : TellsFaults before after status
  pub complete : WithoutFaults before after (λ bytes. length bytes ≤ document_limit → DoesOn bytes status)

-- ---- reading

-- a document that is too long
abbrev pub IsTooLong : List ℕ → List ℕ → Type 0
IsTooLong bytes text = (document_limit < length bytes) × (text ≡ line document_limit_text)

-- its line is due, and no other
abbrev pub IsLongDue : List ℕ → Status → List ℕ → Type 0
IsLongDue bytes Limit text = IsTooLong bytes text
IsLongDue bytes Done text = ⊥
IsLongDue bytes No text = ⊥
IsLongDue bytes Usage text = ⊥
IsLongDue bytes ReadFault text = ⊥
IsLongDue bytes WriteFault text = ⊥
IsLongDue bytes BadInput text = ⊥
IsLongDue bytes OutOfMemory text = ⊥

-- where no port failed, there was no memory
abbrev pub FindsNoMemory : List ℕ → Status → Type 0
FindsNoMemory bytes status = status ≡ OutOfMemory

-- a document that isn't too long was read whole, and nothing else was done
pub record HasRead (bytes : List ℕ) (before after : Streams) : Type 0 where
  pub short : length bytes ≤ document_limit
  pub all : IfSome before.left (λ told. bytes ≡ told)
  pub left : after.left ≡ none_left before.left
  pub reads : ReadsToEnd (length bytes) before.reads after.reads
  pub read_faults : after.read_faults ≡ before.read_faults
  pub written : after.written ≡ before.written
  pub write_faults : after.write_faults ≡ before.write_faults

-- ---- writing

-- the statuses that tell what was found of a document
abbrev pub IsVerdict : Status → Type 0
IsVerdict Done = Unit {0}
IsVerdict No = Unit {0}
IsVerdict BadInput = Unit {0}
IsVerdict Limit = Unit {0}
IsVerdict Usage = ⊥
IsVerdict ReadFault = ⊥
IsVerdict WriteFault = ⊥
IsVerdict OutOfMemory = ⊥

-- the text of the reply was written, or memory ran out before there was one
abbrev pub SaysReply : Result Reply NoMemory → Status → Option (List ℕ) → Option (List ℕ) → Type 0
SaysReply (Ok reply) status old new = Says reply.status reply.text status old new
SaysReply (Err none) status old new = (status ≡ OutOfMemory) × (new ≡ old)
