-- Calls in a row: which of them is the armed one, and what they answer together.
use Rattle.std.proofs.Common.{◌≡◌, ◌≢◌, ◌⊎◌, inl, inr, ℕ, zero, suc, ◌+◌, ◌-◌, ◌<◌, ◌≤◌, false, List, Option, None, Some, Result, Ok, Err, refl, sym, ◌∙◌, ap, subst, arith}
use Rattle.std.specs.Prelude.{◌==◌, IsTrue, OnOk, IsErr, IsErrOf}
use Rattle.std.proofs.lemmas.Bool.{cases_lt}
use Rattle.std.proofs.lemmas.Bool.Decides.{nat_tests}
use Rattle.acc_ports.specs.declared.error.PortError.{PortError}
use Rattle.acc_ports.specs.declared.error.PortError.TheVariants.{Failed, OutOfMemory}
use Rattle.acc_ports.specs.declared.disk.Disk.{Ghosts}
use Rattle.acc_ports.specs.State.{DiskState}
use Rattle.acc_ports.specs.Faults.{Rose}
use Rattle.acc_ports.specs.Strict.{after_call, WithMemory, FailsArmed}
use Rattle.acc_ports.specs.Disk.{EachCall}
use Rattle.acc_journal.specs.declared.error.JournalError.{JournalError}
use Rattle.acc_journal.specs.declared.error.JournalError.TheVariants as journal
use Rattle.acc_journal.specs.Errors.{journal_error}
use Rattle.acc_journal.specs.Calls.{Answer, ending_of, journal_answer, after_calls, FailsWithin, FailsIn, Asks}

passes_one : (calls : ℕ) → 0 < calls → after_call (Some calls) ≡ Some (calls - 1)
passes_one calls some = let test : (calls == 0) ≡ false = grind (arith, nat_tests) in rw test refl

after_some : (n passed : ℕ) → n ≤ passed → after_calls n (Some passed) ≡ Some (passed - n)
after_some zero passed le = let same : passed ≡ passed - 0 = omega arith in ap Some same
after_some (suc n) passed le =
    let fewer : n ≤ passed = omega arith in
    let some : 0 < passed - n = omega arith in
    let less : passed - n - 1 ≡ passed - suc n = omega arith in
    ap after_call (after_some n passed fewer) ∙ passes_one (passed - n) some ∙ ap Some less

after_none : (n : ℕ) → after_calls n None ≡ None
after_none zero = refl
after_none (suc n) = ap after_call (after_none n)

after_both : (m n : ℕ) (armed : Option ℕ) → after_calls n (after_calls m armed) ≡ after_calls (m + n) armed
after_both m zero armed = let same : m ≡ m + 0 = omega arith in ap (λ (k : ℕ). after_calls k armed) same
after_both m (suc n) armed = let more : suc (m + n) ≡ m + suc n = omega arith in ap after_call (after_both m n armed) ∙ ap (λ (k : ℕ). after_calls k armed) more

within_or : (m : ℕ) (armed : Option ℕ) → FailsWithin m armed ⊎ (FailsWithin m armed → ⊥)
within_or m None = inr (λ none. none)
within_or m (Some passed) = elim (cases_lt passed m) [ inl lt ↦ inl lt | inr le ↦ inr (λ lt. omega arith) ]

within_more : (m n : ℕ) (armed : Option ℕ) → FailsWithin m armed → FailsWithin (m + n) armed
within_more m n None none = none
within_more m n (Some passed) lt = omega arith

within_rest : (m n : ℕ) (armed : Option ℕ) → FailsWithin (m + n) armed → (FailsWithin m armed → ⊥) → FailsWithin n (after_calls m armed)
within_rest m n None none not = absurd none
within_rest m n (Some passed) lt not = elim (cases_lt passed m) [
  | inl early ↦ absurd (not early)
  | inr le ↦ let less : passed - m < n = omega arith in subst (FailsWithin n) (sym (after_some m passed le)) less
]

within_back : (m n : ℕ) (armed : Option ℕ) → FailsWithin n (after_calls m armed) → (FailsWithin m armed → ⊥) → FailsWithin (m + n) armed
within_back m n None within not = subst (FailsWithin n) (after_none m) within
within_back m n (Some passed) within not = elim (cases_lt passed m) [
  | inl early ↦ absurd (not early)
  | inr le ↦ let less : passed - m < n = subst (FailsWithin n) (after_some m passed le) within in let all : passed < m + n = omega arith in all
]

only_first : (armed : Option ℕ) → FailsWithin 1 armed → armed ≡ Some 0
only_first None none = absurd none
only_first (Some passed) lt = let first : passed ≡ 0 = omega arith in ap Some first

-- one call
one_counts : {T : Type 0} (before after : DiskState) (result : Result T PortError) → WithMemory result (after.armed ≡ after_call before.armed) → OnOk (ending_of result) (after.armed ≡ after_calls 1 before.armed)
one_counts before after (Ok value) counts = counts
one_counts before after (Err refused) counts = tt

is_err : {T : Type 0} (result : Result T PortError) → IsErr result → IsErr (ending_of result)
is_err (Ok value) none = absurd (cc none)
is_err (Err refused) some = refl

pub failed_too : {T : Type 0} (result : Result T PortError) → IsErrOf (ending_of result) Failed → IsErrOf result Failed
failed_too (Ok value) none = absurd (cc none)
failed_too (Err refused) is = let same : refused ≡ Failed = cc is in ap Err same

pub failed_so : {T : Type 0} (result : Result T PortError) → IsErrOf result Failed → IsErrOf (ending_of result) Failed
failed_so (Ok value) none = absurd (cc none)
failed_so (Err refused) is = let same : refused ≡ Failed = cc is in ap Err same

one_call : {T : Type 0} (before after : DiskState) (result : Result T PortError) → FailsArmed before.armed after.armed result → FailsIn 1 before after (ending_of result)
one_call before after result fails = record {
  counts = one_counts before after result fails.counts;
  early = λ within. is_err result (fails.fails (only_first before.armed within));
  late = λ not failed. fails.passes (λ is. not (let one : FailsWithin 1 (Some 0) = omega arith in subst (FailsWithin 1) (sym is) one)) (failed_too result failed);
}

counts_both : (m n : ℕ) (old mid new : DiskState) (answer : Answer) → mid.armed ≡ after_calls m old.armed → OnOk answer (new.armed ≡ after_calls n mid.armed) → OnOk answer (new.armed ≡ after_calls (m + n) old.armed)
counts_both m n old mid new (Ok value) first second = second ∙ ap (after_calls n) first ∙ after_both m n old.armed
counts_both m n old mid new (Err refused) first second = tt

fails_both : (m n : ℕ) (old mid new : DiskState) (answer : Answer) → FailsIn m old mid (Ok tt) → FailsIn n mid new answer → FailsIn (m + n) old new answer
fails_both m n old mid new answer first second = record {
  counts = counts_both m n old mid new answer first.counts second.counts;
  early = λ within. elim (within_or m old.armed) [
    | inl early ↦ absurd (cc (first.early early))
    | inr late ↦ second.early (subst (FailsWithin n) (sym first.counts) (within_rest m n old.armed within late))
  ];
  late = λ not. second.late (λ within. elim (within_or m old.armed) [
    | inl early ↦ not (within_more m n old.armed early)
    | inr late ↦ not (within_back m n old.armed (subst (FailsWithin n) first.counts within) late)
  ]);
}

-- what calls in a row ask of the disk, of a kind that port tells of
module _ {D : Type 0} (port : Ghosts D) where
  -- one call
  pub asks_one : {T : Type 0} (old new : D) (past since : ℕ → List ℕ → Type 0) (images : List ℕ → Type 0) (result : Result T PortError) → EachCall (port.state old) (port.state new) past since images result → Asks port 1 old new (ending_of result)
  asks_one old new past since images result call = record {
    kind = call.kind;
    faults = record { cause = λ failed. call.faults.cause (failed_too result failed); unfailed = λ not. call.faults.unfailed (λ failed. not (failed_so result failed)) };
    strict = λ strict. one_call (port.state old) (port.state new) result (call.armed strict);
  }

  -- some, and then others
  pub asks_both : (m n : ℕ) (old mid new : D) (answer : Answer) → Asks port m old mid (Ok tt) → Asks port n mid new answer → Asks port (m + n) old new answer
  asks_both m n old mid new answer first second =
      let still : (port.state mid).faults ≡ (port.state old).faults = first.faults.unfailed (λ none. cc none) in
      record {
        kind = second.kind ∙ first.kind;
        faults = record {
          cause = λ failed. subst (λ (n : ℕ). Rose n (port.state new).faults) still (second.faults.cause failed);
          unfailed = λ not. second.faults.unfailed not ∙ still;
        };
        strict = λ strict. fails_both m n (port.state old) (port.state mid) (port.state new) answer (first.strict strict) (second.strict (subst IsTrue (sym first.kind) strict));
      }

  -- An error ends them.
  pub asks_fewer : (m n : ℕ) (old new : D) (refused : PortError) → Asks port m old new (Err refused) → Asks port (m + n) old new (Err refused)
  asks_fewer m n old new refused asks = record {
    kind = asks.kind;
    faults = asks.faults;
    strict = λ strict. record { counts = tt; early = λ within. refl; late = λ not. (asks.strict strict).late (λ within. not (within_more m n (port.state old).armed within)) };
  }

  -- All of them passed, and then what they gave was refused.
  pub asks_refused : (m : ℕ) (old new : D) → Asks port m old new (Ok tt) → Asks port m old new (Err OutOfMemory)
  asks_refused m old new asks = record {
    kind = asks.kind;
    faults = record { cause = λ failed. absurd (cc failed); unfailed = λ not. asks.faults.unfailed (λ none. cc none) };
    strict = λ strict. record { counts = tt; early = λ within. refl; late = λ not failed. cc failed };
  }

  pub asks_told : {T : Type 0} (m : ℕ) (old new : D) (told : Result T JournalError) → told ≢ Err journal.DiskFault → Asks port m old new (Ok tt) → Asks port m old new (journal_answer told)
  asks_told m old new (Ok value) not asks = asks
  asks_told m old new (Err journal.DiskFault) not asks = absurd (not refl)
  asks_told m old new (Err (journal.BadVersion version)) not asks = asks_refused m old new asks
  asks_told m old new (Err (journal.BadRecord place)) not asks = asks_refused m old new asks
  asks_told m old new (Err journal.OutOfMemory) not asks = asks_refused m old new asks

-- the error of a journal that came of one of its disk
pub answer_error : (T : Type 0) (refused : PortError) (told : JournalError) → told ≡ journal_error refused → journal_answer {T = T} (Err told) ≡ Err refused
answer_error T refused told is = ap (λ (e : JournalError). journal_answer {T = T} (Err e)) is ∙ named refused
  where
    named : (e : PortError) → journal_answer {T = T} (Err (journal_error e)) ≡ Err e
    named Failed = refl
    named OutOfMemory = refl
