-- Each way in which a command ends that reads a document.
use Rattle.std.proofs.Common.{◌≡◌, ◌≢◌, ◌<◌, ◌≤◌, ◌⊎◌, ℕ, ◌+◌, List, length, Option, Result, Ok, Err, refl, sym, ◌∙◌, subst, inl, inr, arith}
use Rattle.std.specs.Prelude.{IfOk, IfSome}
use Rattle.acc_base.specs.declared.memory.OutOfMemory.{OutOfMemory as NoMemory}
use Rattle.acc_ports.specs.Faults.{Rose}
use Rattle.acc_ports.specs.Source.{without_first, TakesAtMost, ReadsOn}
use Rattle.acc_command_alone.specs.declared.reply.Reply.{Reply}
use Rattle.acc_command_alone.specs.declared.status.Status.{Status}
use Rattle.acc_command_alone.specs.declared.status.Status.TheVariants.{Done, No, Usage, ReadFault, WriteFault, BadInput, Limit, OutOfMemory}
use Rattle.acc_command_alone.specs.Streams.{Streams}
use Rattle.acc_command_alone.specs.Lines.{document_limit_text, line}
use Rattle.acc_command_alone.specs.Ends.{document_limit, Ends, Leaves, ReadsFor, Says}
use Rattle.acc_command_alone.specs.Responds.{Responds, FindsNoMemory, HasRead, IsLongDue, IsTooLong, IsVerdict, SaysReply}
use Rattle.acc_command_alone.proofs.ReadFacts.{all_bytes, given, known_bytes, leaves_none, mapped, reads_to_end, rest, taken, too_long}
use Rattle.acc_command_alone.proofs.SaidFacts.{each, either, ends, not_read_fault, not_usage, reply_either, reply_ends}

-- ---- no document was read

module _ (before after : Streams) (reads : ReadsOn before.reads after.reads) where
  -- too many bytes
  pub was_long : (text : List ℕ) (status : Status) → text ≡ line document_limit_text → IfSome before.left (λ told. document_limit < length told)
      → after.left ≡ without_first (document_limit + 1) before.left → TakesAtMost (document_limit + 1) before.left after.left
      → after.read_faults ≡ before.read_faults → Says Limit text status before.written after.written
      → (status ≡ WriteFault → (Limit ≡ WriteFault) ⊎ Rose before.write_faults after.write_faults)
      → (status ≢ WriteFault → after.write_faults ≡ before.write_faults) → Responds IsLongDue FindsNoMemory before after status
  was_long text status is long left at_most unfailed said cause still =
      let bytes = too_long before.left long in
      let never : Limit ≢ WriteFault = λ e. cc in
      let failed : status ≢ ReadFault = either (λ s. s ≢ ReadFault) Limit text status before.written after.written (λ e. cc) (λ e. cc) (λ e. cc) said in
      record {
        ends = record {
          bytes = bytes.0;
          given = bytes.1;
          reads = either (λ s. ReadsFor (length bytes.0) s before.reads after.reads) Limit text status before.written after.written (inl reads) (inl reads) (inl reads) said;
          ends = ends (IsLongDue bytes.0) Limit text status before.written after.written (bytes.2, is) (λ w. w) said;
        };
        words = either (λ s. s ≢ Usage) Limit text status before.written after.written (λ e. cc) (λ e. cc) (λ e. cc) said;
        leaves = either (λ s. Leaves s before.left after.left) Limit text status before.written after.written left left at_most said;
        faults = record {
          read_fault = λ e. absurd (failed e);
          read_first = λ _. unfailed;
          unwritten = λ e. absurd (failed e);
          write_fault = λ e. risen never (cause e);
          no_write_fault = still;
        };
        complete = λ _ _. mapped before.left (λ told. document_limit < length told) (λ told. length told ≤ document_limit → FindsNoMemory told status) long
            (λ told more less. absurd (omega (arith, more, less)));
      }
    where
      risen : Limit ≢ WriteFault → (Limit ≡ WriteFault) ⊎ Rose before.write_faults after.write_faults → Rose before.write_faults after.write_faults
      risen never (inl e) = absurd (never e)
      risen never (inr rose) = rose

  -- the source failed, or memory ran out
  module _ (at_most : TakesAtMost (document_limit + 1) before.left after.left) (written : after.written ≡ before.written) (still : after.write_faults ≡ before.write_faults) where
    pub has_failed : Rose before.read_faults after.read_faults → Responds IsLongDue FindsNoMemory before after ReadFault
    has_failed rose =
        let some = given before.left in
        record {
          ends = record { bytes = some.0; given = some.1; reads = reads; ends = written };
          words = λ e. cc;
          leaves = at_most;
          faults = record { read_fault = λ _. rose; read_first = λ no. absurd (no refl); unwritten = λ _. written; write_fault = λ e. cc; no_write_fault = λ _. still };
          complete = λ none _. absurd (none rose);
        }

    pub had_no_memory : after.read_faults ≡ before.read_faults → Responds IsLongDue FindsNoMemory before after OutOfMemory
    had_no_memory unfailed =
        let some = given before.left in
        record {
          ends = record { bytes = some.0; given = some.1; reads = inl reads; ends = inl written };
          words = λ e. cc;
          leaves = at_most;
          faults = record { read_fault = λ e. cc; read_first = λ _. unfailed; unwritten = λ e. cc; write_fault = λ e. cc; no_write_fault = λ _. still };
          complete = λ _ _. all_bytes before.left (λ told. length told ≤ document_limit → FindsNoMemory told OutOfMemory) (λ told less. refl);
        }

-- ---- it was read, and answered

-- what is due is a verdict, with which the command does its work
pub record IsTold (DueOn : List ℕ → Status → List ℕ → Type 0) (DoesOn : List ℕ → Status → Type 0) : Type 0 where
  pub verdict : (bytes : List ℕ) (status : Status) (text : List ℕ) → DueOn bytes status text → IsVerdict status
  pub does : (bytes : List ℕ) (status : Status) (text : List ℕ) → DueOn bytes status text → length bytes ≤ document_limit → DoesOn bytes status
  pub no_memory : (bytes : List ℕ) → DoesOn bytes OutOfMemory

module _ (DueOn : List ℕ → Status → List ℕ → Type 0) (DoesOn : List ℕ → Status → Type 0) (told : IsTold DueOn DoesOn) where
  pub verdicts : (bytes : List ℕ) (reply : Result Reply NoMemory) → IfOk reply (λ r. DueOn bytes r.status r.text) → IfOk reply (λ r. IsVerdict r.status)
  verdicts bytes (Ok reply) due = told.verdict bytes reply.status reply.text due
  verdicts bytes (Err none) due = tt

  -- with every status but that of a failed sink
  does : (bytes : List ℕ) (reply : Result Reply NoMemory) → length bytes ≤ document_limit → IfOk reply (λ r. DueOn bytes r.status r.text)
      → IfOk reply (λ r. r.status ≢ WriteFault → DoesOn bytes r.status)
  does bytes (Ok reply) short due = λ _. told.does bytes reply.status reply.text due short
  does bytes (Err none) short due = tt

  pub answered : (before middle after : Streams) (bytes : List ℕ) (reply : Result Reply NoMemory) (status : Status) → HasRead bytes before middle
      → IfOk reply (λ r. DueOn bytes r.status r.text) → SaysReply reply status middle.written after.written
      → (status ≡ WriteFault → Rose middle.write_faults after.write_faults) → (status ≢ WriteFault → after.write_faults ≡ middle.write_faults)
      → after.left ≡ middle.left → after.reads ≡ middle.reads → after.read_faults ≡ middle.read_faults → Responds DueOn DoesOn before after status
  answered before middle after bytes reply status read due said cause still left reads faults =
      let is : IfOk reply (λ r. IsVerdict r.status) = verdicts bytes reply due in
      let end = left ∙ read.left in
      let each_read = subst (λ r. ReadsFor (length bytes) status before.reads r) (sym reads)
      (reply_either (λ s. ReadsFor (length bytes) s before.reads middle.reads) reply status middle.written after.written
      (each (λ s. ReadsFor (length bytes) s before.reads middle.reads) reply (reads_to_end (length bytes) before.reads middle.reads read.reads) is) (inr read.reads) (inr read.reads) said) in
      let not_failed : status ≢ ReadFault =
      reply_either (λ s. s ≢ ReadFault) reply status middle.written after.written (each (λ s. s ≢ ReadFault) reply not_read_fault is) (λ e. cc) (λ e. cc) said in
      record {
        ends = record {
          bytes = bytes;
          given = read.all;
          reads = each_read;
          ends = subst (λ old. Ends (DueOn bytes) status old after.written) read.written
              (reply_ends (DueOn bytes) reply status middle.written after.written is due said);
        };
        words = reply_either (λ s. s ≢ Usage) reply status middle.written after.written (each (λ s. s ≢ Usage) reply not_usage is) (λ e. cc) (λ e. cc) said;
        leaves = reply_either (λ s. Leaves s before.left after.left) reply status middle.written after.written
            (each (λ s. Leaves s before.left after.left) reply (leaves_none bytes before.left after.left read.short read.all end) is)
            (rest bytes before.left after.left read.short read.all end) (taken bytes before.left after.left read.short read.all end) said;
        faults = record {
          read_fault = λ e. absurd (not_failed e);
          read_first = λ _. faults ∙ read.read_faults;
          unwritten = λ e. absurd (not_failed e);
          write_fault = λ e. subst (λ n. Rose n after.write_faults) read.write_faults (cause e);
          no_write_fault = λ e. still e ∙ read.write_faults;
        };
        complete = λ _ no_write. known_bytes before.left bytes (λ told. length told ≤ document_limit → DoesOn told status) read.all
            (λ short. finished no_write short);
      }
    where
      finished : ¬ (Rose before.write_faults after.write_faults) → length bytes ≤ document_limit → DoesOn bytes status
      finished no_write short =
          reply_either (λ s. s ≢ WriteFault → DoesOn bytes s) reply status middle.written after.written (does bytes reply short due) (λ no. absurd (no refl))
          (λ _. told.no_memory bytes) said (λ e. no_write (subst (λ n. Rose n after.write_faults) read.write_faults (cause e)))

-- ---- a weaker promise

ends_so : (P Q : Status → List ℕ → Type 0) (status : Status) (old new : Option (List ℕ)) → ((status : Status) (text : List ℕ) → P status text → Q status text)
    → Ends P status old new → Ends Q status old new
ends_so P Q Done old new f w = (w.0, f Done w.0 w.1, w.2)
ends_so P Q No old new f w = (w.0, f No w.0 w.1, w.2)
ends_so P Q Usage old new f w = (w.0, f Usage w.0 w.1, w.2)
ends_so P Q ReadFault old new f w = w
ends_so P Q WriteFault old new f w = (w.0, w.1, f w.0 w.1 w.2, w.3)
ends_so P Q BadInput old new f w = (w.0, f BadInput w.0 w.1, w.2)
ends_so P Q Limit old new f w = (w.0, f Limit w.0 w.1, w.2)
ends_so P Q OutOfMemory old new f (inl same) = inl same
ends_so P Q OutOfMemory old new f (inr w) = inr (w.0, w.1, f w.0 w.1 w.2, w.3)

-- what is due so is due otherwise too, and work done so is done otherwise too
pub answers_so : (P Q : List ℕ → Status → List ℕ → Type 0) (D E : List ℕ → Status → Type 0) (before after : Streams) (status : Status)
    → ((bytes : List ℕ) (status : Status) (text : List ℕ) → P bytes status text → Q bytes status text)
    → ((bytes : List ℕ) → D bytes status → E bytes status) → Responds P D before after status → Responds Q E before after status
answers_so P Q D E before after status due does a = record {
  ends = record {
    bytes = a.ends.bytes;
    given = a.ends.given;
    reads = a.ends.reads;
    ends = ends_so (P a.ends.bytes) (Q a.ends.bytes) status before.written after.written (due a.ends.bytes) a.ends.ends;
  };
  words = a.words;
  leaves = a.leaves;
  faults = a.faults;
  complete = λ no_read no_write.
      mapped before.left (λ told. length told ≤ document_limit → D told status) (λ told. length told ≤ document_limit → E told status) (a.complete no_read no_write)
      (λ told done short. does told (done short));
}

-- the line of a document that is too long is due of each command that reads one
pub long_so : (P : List ℕ → Status → List ℕ → Type 0) (E : List ℕ → Status → Type 0) (before after : Streams) (status : Status)
    → ((bytes text : List ℕ) → IsTooLong bytes text → P bytes Limit text) → ((bytes : List ℕ) → E bytes OutOfMemory)
    → Responds IsLongDue FindsNoMemory before after status → Responds P E before after status
long_so P E before after status long none =
    answers_so IsLongDue P FindsNoMemory E before after status due (λ bytes is. subst (E bytes) (sym is) (none bytes))
  where
    due : (bytes : List ℕ) (status : Status) (text : List ℕ) → IsLongDue bytes status text → P bytes status text
    due bytes Limit text is = long bytes text is
    due bytes Done text is = absurd is
    due bytes No text is = absurd is
    due bytes Usage text is = absurd is
    due bytes ReadFault text is = absurd is
    due bytes WriteFault text is = absurd is
    due bytes BadInput text is = absurd is
    due bytes OutOfMemory text is = absurd is
