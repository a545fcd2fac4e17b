-- An append by its two writes, whose ends are known.
use Rattle.std.proofs.Common.{◌≡◌, ◌≢◌, ◌⊎◌, inl, ℕ, ◌+◌, ◌≤◌, arith, List, [], ◌∷◌, ◌++◌, length, Result, Ok, Err, refl, sym, ◌∙◌, ap, subst}
use Rattle.std.specs.Prelude.{IsTrue, IsErrOf}
use Rattle.acc_ports.specs.declared.error.PortError.{PortError}
use Rattle.acc_ports.specs.declared.error.PortError.TheVariants.{Failed, OutOfMemory}
use Rattle.acc_ports.specs.declared.disk.Disk.{Ghosts}
use Rattle.acc_ports.specs.Disk.{overwritten, Torn, IsAtRest}
use Rattle.acc_ports.specs.Moments.{LeavesOnly}
use Rattle.acc_journal.specs.declared.error.JournalError.{JournalError}
use Rattle.acc_journal.specs.declared.error.JournalError.TheVariants as journal
use Rattle.acc_journal.specs.Errors.{journal_error, port_error}
use Rattle.acc_journal.specs.Layout.{Reads, payloads_of}
use Rattle.acc_journal.specs.Journal.{ReadsAsEither, HasGateAt, IsGroup, IsSettled, FailedHalfWay}
use Rattle.acc_journal.specs.Calls.{Asks, Appends, journal_answer}
use Rattle.acc_journal.proofs.Appending.{staged as laid, is_staged, has_gate, after_first, after_second}
use Rattle.acc_journal.proofs.Choices.{first_failed, second_failed}
use Rattle.acc_journal.proofs.Rows.{asks_both, asks_fewer, answer_error}

-- what a durable write promises, for any answer
pub record Wrote {D : Type 0} (port : Ghosts D) (at : ℕ) (bytes : List ℕ) (old new : D) (answer : Result (Unit {0}) PortError) : Type 0 where
  pub any_moment : LeavesOnly port old new (λ image. (image ≡ (port.state old).content) ⊎ Torn at (length bytes) (port.state old).content image)
  pub calls : Asks port 2 old new answer
  pub failed : IsTrue (port.state old).strict → IsErrOf answer Failed → FailedHalfWay at bytes (port.state old) (port.state new)

module _ {D : Type 0} (port : Ghosts D) (old : D) (gate : ℕ) (settled : IsSettled (port.state old) (port.is_image old) gate) (bytes : List ℕ) (group : List (List ℕ)) (is : IsGroup group bytes) where
  abbrev before : List (List ℕ)
  before = payloads_of (port.state old).content

  -- the first failed
  pub first_ends : (new : D) (refused : PortError) → Wrote port (gate + 1) bytes old new (Err refused) → Appends port old new before group (Err refused)
  first_ends new refused first = record {
    lasts = tt;
    any_moment = after_first _ _ _ settled.has_gate bytes group is port old new first.any_moment;
    calls = asks_fewer port 2 2 old new refused first.calls;
    failed = λ strict failed. first_failed _ _ _ settled.has_gate bytes group (port.state old) (port.state new) refl (first.failed strict failed);
  }

  module _ (mid : D) (written : (port.state mid).content ≡ overwritten (gate + 1) bytes (port.state old).content) (first : Wrote port (gate + 1) bytes old mid (Ok tt)) where
    staged : (port.state mid).content ≡ laid (port.state old).content before gate settled.has_gate bytes
    staged = written ∙ is_staged _ _ _ settled.has_gate bytes

    -- the first passed, and the second failed
    pub second_ends : (new : D) (refused : PortError) → Wrote port gate (1 ∷ []) mid new (Err refused) → Appends port old new before group (Err refused)
    second_ends new refused second = record {
      lasts = tt;
      any_moment = after_second _ _ _ settled.has_gate bytes group is port old mid new _ staged first.any_moment second.any_moment;
      calls = asks_both port 2 2 old mid new (Err refused) first.calls second.calls;
      failed = λ strict failed.
          second_failed _ _ _ settled.has_gate bytes group is (port.state old).armed (port.state mid) (port.state new) (first.calls.strict strict).counts staged
          (second.failed (subst IsTrue (sym first.calls.kind) strict) failed);
    }

    -- both passed
    pub is_appended : (new : D) → (port.state new).content ≡ overwritten gate (1 ∷ []) (port.state mid).content → HasGateAt (port.state new).content (before ++ group) (gate + length bytes)
    is_appended new opened = has_gate _ _ _ settled.has_gate bytes group is _ (opened ∙ ap (λ (l : List ℕ). overwritten gate (1 ∷ []) l) staged)

    pub both_pass : (new : D) → (port.state new).content ≡ overwritten gate (1 ∷ []) (port.state mid).content → IsAtRest (port.state new) (port.is_image new) → Wrote port gate (1 ∷ []) mid new (Ok tt) → Appends port old new before group (Ok tt)
    both_pass new opened rest second = record {
      lasts = λ image left. subst (λ (l : List ℕ). Reads l (before ++ group)) (sym (rest.only image left)) (is_appended new opened).reads;
      any_moment = after_second _ _ _ settled.has_gate bytes group is port old mid new _ staged first.any_moment second.any_moment;
      calls = asks_both port 2 2 old mid new (Ok tt) first.calls second.calls;
      failed = λ strict none. absurd (cc none);
    }

-- the error of a journal that came of one of its disk
pub appends_told : {D : Type 0} (port : Ghosts D) (T : Type 0) (old new : D) (payloads group : List (List ℕ)) (refused : PortError) (told : JournalError) → told ≡ journal_error refused → Appends port old new payloads group (Err refused) → Appends port old new payloads group (journal_answer {T = T} (Err told))
appends_told port T old new payloads group refused told is appends = subst (λ a. Appends port old new payloads group a) (sym (answer_error T refused told is)) appends

-- an error of a journal other than a fault
pub other_error : (told : JournalError) → told ≢ journal.DiskFault → port_error told ≡ OutOfMemory
other_error journal.DiskFault not = absurd (not refl)
other_error (journal.BadVersion version) not = refl
other_error (journal.BadRecord place) not = refl
other_error journal.OutOfMemory not = refl

-- Nothing was appended, and no call was made.
pub no_append : {D : Type 0} (port : Ghosts D) (old new : D) (payloads group : List (List ℕ)) → ((image : List ℕ) → port.was_image old (port.state old).clock image → port.is_image old image)
    → ((image : List ℕ) → port.is_image old image → Reads image payloads) → new ≡ old → Appends port old new payloads group (Err OutOfMemory)
no_append port old new payloads group only_now reads is =
    let still : Appends port old old payloads group (Err OutOfMemory) = record {
      lasts = tt;
      any_moment = record { later = omega arith; each = λ image was. inl (reads image (only_now image was)); before = λ _ _ _ was. inl was };
      calls = record {
        kind = refl;
        faults = record { cause = λ failed. absurd (cc failed); unfailed = λ not. refl };
        strict = λ strict. record { counts = tt; early = λ within. refl; late = λ not failed. cc failed };
      };
      failed = λ strict failed. absurd (cc failed);
    } in
    subst (λ d. Appends port old d payloads group (Err OutOfMemory)) (sym is) still

-- The bytes that a crash leaves now are the old ones or those with the group.
pub either_now : {D : Type 0} (port : Ghosts D) (old new : D) (payloads group : List (List ℕ)) (answer : Result (Unit {0}) PortError) → ((moment : ℕ) (image : List ℕ) → moment ≤ (port.state new).clock → port.is_image new image → port.was_image new moment image)
    → Appends port old new payloads group answer → (image : List ℕ) → port.is_image new image → ReadsAsEither payloads group image
either_now port old new payloads group answer counts_now appends image left = appends.any_moment.each image (counts_now (port.state old).clock image appends.any_moment.later left)
