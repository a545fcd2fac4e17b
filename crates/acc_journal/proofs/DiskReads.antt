-- A disk at rest that is read, in two calls.
use Rattle.std.proofs.Common.{◌≡◌, ◌≢◌, ℕ, List, Result, Ok, Err, sym, ◌∙◌, subst}
use Rattle.std.specs.Prelude.{IsTrue, IfErr}
use Rattle.acc_ports.specs.declared.error.PortError.{PortError}
use Rattle.acc_ports.specs.declared.error.PortError.TheVariants.{Failed, OutOfMemory}
use Rattle.acc_ports.specs.declared.disk.Disk.{Ghosts}
use Rattle.acc_ports.specs.State.{DiskState}
use Rattle.acc_ports.specs.Strict.{WithMemory}
use Rattle.acc_ports.specs.Disk.{NoFurther, Only, IsAtRest, EachCall, OnlyReads, SameBytes}
use Rattle.acc_ports.specs.Moments.{LeavesOnly}
use Rattle.acc_journal.specs.declared.error.JournalError.{JournalError}
use Rattle.acc_journal.specs.declared.error.JournalError.TheVariants as journal
use Rattle.acc_journal.specs.Errors.{journal_error, port_error}
use Rattle.acc_journal.specs.Calls.{Answer, ending_of, journal_answer, Asks, ReadsDisk}
use Rattle.acc_journal.proofs.Moments.{started, goes_on}
use Rattle.acc_journal.proofs.Rows.{asks_one, asks_both, asks_fewer, asks_refused, asks_told, answer_error}

-- so many calls only read
pub record Read {D : Type 0} (port : Ghosts D) (many : ℕ) (old new : D) (answer : Answer) : Type 0 where
  pub content : (port.state new).content ≡ (port.state old).content
  pub only : Only (port.state old).content (port.is_image new)
  pub same : IsTrue (port.state old).strict → WithMemory answer (SameBytes (port.state old) (port.state new))
  pub any_moment : LeavesOnly port old new (λ image. image ≡ (port.state old).content)
  pub calls : Asks port many old new answer

-- ---- where it isn't memory that was missing

ended : {T : Type 0} (result : Result T PortError) (P : Type 0) → WithMemory result P → WithMemory (ending_of result) P
ended (Ok value) P p = p
ended (Err Failed) P p = p
ended (Err OutOfMemory) P none = tt

same_both : (old mid new : DiskState) → SameBytes old mid → SameBytes mid new → SameBytes old new
same_both old mid new first second = record { content = second.content ∙ first.content; synced = second.synced ∙ first.synced; written = second.written ∙ first.written }

same_too : (answer : Answer) (old mid new : DiskState) → SameBytes old mid → WithMemory answer (SameBytes mid new) → WithMemory answer (SameBytes old new)
same_too (Ok value) old mid new first second = same_both old mid new first second
same_too (Err Failed) old mid new first second = same_both old mid new first second
same_too (Err OutOfMemory) old mid new first second = tt

told_with : {T : Type 0} (told : Result T JournalError) (P : Type 0) → P → WithMemory (journal_answer told) P
told_with (Ok value) P p = p
told_with (Err journal.DiskFault) P p = p
told_with (Err (journal.BadVersion version)) P p = tt
told_with (Err (journal.BadRecord place)) P p = tt
told_with (Err journal.OutOfMemory) P p = tt

refused_with : (refused : JournalError) (P : Type 0) → P → WithMemory {T = Unit {0}} (Err (port_error refused)) P
refused_with refused P p = told_with {T = Unit {0}} (Err refused) P p

pub whatever_refused : {T : Type 0} (told : Result T JournalError) (P : Type 0) → P → IfErr told (λ e. e ≢ journal.OutOfMemory → P)
whatever_refused (Ok value) P p = tt
whatever_refused (Err refused) P p = λ not. p

module _ {D : Type 0} (port : Ghosts D) (old : D) (rest : IsAtRest (port.state old) (port.is_image old)) where
  at_rest : (new : D) → (port.state new).content ≡ (port.state old).content → Only (port.state old).content (port.is_image new) → (port.state new).strict ≡ (port.state old).strict
      → (IsTrue (port.state old).strict → SameBytes (port.state old) (port.state new)) → IsAtRest (port.state new) (port.is_image new)
  at_rest new content only kind same = record {
    only = λ image i. only image i ∙ sym content;
    all_synced = λ strict. let was = subst IsTrue kind strict in (same was).synced ∙ rest.all_synced was ∙ sym content;
    none_written = λ strict. let was = subst IsTrue kind strict in (same was).written ∙ rest.none_written was;
  }

  rests : (many : ℕ) (new : D) (answer : Answer) → Read port many old new answer → WithMemory answer (IsAtRest (port.state new) (port.is_image new))
  rests many new (Ok value) read = at_rest new read.content read.only read.calls.kind read.same
  rests many new (Err Failed) read = at_rest new read.content read.only read.calls.kind read.same
  rests many new (Err OutOfMemory) read = tt

  -- A call failed, and not for want of memory.
  pub rests_after : (many : ℕ) (new : D) (refused : PortError) (told : JournalError) → told ≡ journal_error refused → Read port many old new (Err refused) → told ≢ journal.OutOfMemory → IsAtRest (port.state new) (port.is_image new)
  rests_after many new Failed told is read not = rests many new (Err Failed) read
  rests_after many new OutOfMemory told is read not = absurd (not is)

  pub rests_then : (new : D) → Read port 2 old new (Ok tt) → IsAtRest (port.state new) (port.is_image new)
  rests_then new read = rests 2 new (Ok tt) read

  pub first_read : ((image : List ℕ) → port.was_image old (port.state old).clock image → port.is_image old image) → {T : Type 0} (new : D) (result : Result T PortError) → NoFurther (port.is_image old) (port.is_image new) → OnlyReads (port.state old) (port.state new) result
      → EachCall (port.state old) (port.state new) (port.was_image old) (port.was_image new) (port.is_image new) result → Read port 1 old new (ending_of result)
  first_read only_now new result images reads call =
      let only : Only (port.state old).content (port.is_image new) = λ image i. rest.only image (images image i) in
      let P : List ℕ → Type 0 = λ image. image ≡ (port.state old).content in
      record {
        content = only _ call.stands.readable;
        only = only;
        same = λ strict. ended result _ (reads.strict strict);
        any_moment = goes_on port old old new P _ (started port old P (λ image left. rest.only image (only_now image left))) call.time only;
        calls = asks_one port old new _ _ _ result call;
      }

  pub second_read : {T : Type 0} (mid new : D) (result : Result T PortError) → Read port 1 old mid (Ok tt) → NoFurther (port.is_image mid) (port.is_image new) → OnlyReads (port.state mid) (port.state new) result
      → EachCall (port.state mid) (port.state new) (port.was_image mid) (port.was_image new) (port.is_image new) result → Read port 2 old new (ending_of result)
  second_read mid new result first images reads call =
      let only : Only (port.state old).content (port.is_image new) = λ image i. first.only image (images image i) in
      record {
        content = only _ call.stands.readable;
        only = only;
        same = λ strict. same_too (ending_of result) (port.state old) (port.state mid) (port.state new) (first.same strict) (ended result _ (reads.strict (subst IsTrue (sym first.calls.kind) strict)));
        any_moment = goes_on port old mid new (λ image. image ≡ (port.state old).content) _ first.any_moment call.time only;
        calls = asks_both port 1 1 old mid new (ending_of result) first.calls (asks_one port mid new _ _ _ result call);
      }

  pub first_fails : (T : Type 0) (new : D) (refused : PortError) (told : JournalError) → told ≡ journal_error refused → Read port 1 old new (Err refused) → ReadsDisk port old new (journal_answer {T = T} (Err told))
  first_fails T new refused told is read = subst (λ (a : Answer). ReadsDisk port old new a) (sym (answer_error T refused told is))
      (record { content = read.content; only = read.only; rest = rests 1 new (Err refused) read; any_moment = read.any_moment; calls = asks_fewer port 1 1 old new refused read.calls })

  pub no_room : (T : Type 0) (new : D) (told : JournalError) → told ≡ journal.OutOfMemory → Read port 1 old new (Ok tt) → ReadsDisk port old new (journal_answer {T = T} (Err told))
  no_room T new told is read = subst (λ (e : JournalError). ReadsDisk port old new (journal_answer {T = T} (Err e))) (sym is)
      (record { content = read.content; only = read.only; rest = tt; any_moment = read.any_moment; calls = asks_fewer port 1 1 old new OutOfMemory (asks_refused port 1 old new read.calls) })

  pub second_fails : (T : Type 0) (new : D) (refused : PortError) (told : JournalError) → told ≡ journal_error refused → Read port 2 old new (Err refused) → ReadsDisk port old new (journal_answer {T = T} (Err told))
  second_fails T new refused told is read = subst (λ (a : Answer). ReadsDisk port old new a) (sym (answer_error T refused told is))
      (record { content = read.content; only = read.only; rest = rests 2 new (Err refused) read; any_moment = read.any_moment; calls = read.calls })

  pub both_read : {T : Type 0} (new : D) (told : Result T JournalError) → told ≢ Err journal.DiskFault → Read port 2 old new (Ok tt) → ReadsDisk port old new (journal_answer told)
  both_read new told not read = record { content = read.content; only = read.only; rest = told_with told _ (rests 2 new (Ok tt) read); any_moment = read.any_moment; calls = asks_told port 2 old new told not read.calls }

-- It was read, and what it gave is refused.
pub read_refused : {D : Type 0} (port : Ghosts D) (old new : D) (refused : JournalError) → refused ≢ journal.DiskFault → ReadsDisk port old new (Ok tt) → ReadsDisk port old new (Err (port_error refused))
read_refused port old new refused not read = record {
  content = read.content;
  only = read.only;
  rest = refused_with refused _ read.rest;
  any_moment = read.any_moment;
  calls = asks_told port {T = Unit {0}} 2 old new (Err refused) (λ is. not (cc is)) read.calls;
}
