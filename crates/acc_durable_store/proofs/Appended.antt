-- What an append promises, as the steps of a durable store hand it on.
use Rattle.std.proofs.Common.{◌≡◌, ◌≢◌, List, [], ◌∷◌, ◌++◌, ℕ, Result, Ok, refl, ◌∙◌, ap, subst}
use Rattle.std.specs.Prelude.{IsErrOf}
use Rattle.acc_ports.specs.declared.error.PortError.TheVariants.{Failed}
use Rattle.acc_ports.specs.declared.disk.Disk.{Ghosts}
use Rattle.acc_ports.specs.Faults.{CountsFaults}
use Rattle.acc_journal.specs.Calls.{Answer, Appends}
use Rattle.acc_durable_store.specs.declared.store.DurableStore.{DurableStore}
use Rattle.acc_durable_store.specs.declared.error.StepError.{StepError}
use Rattle.acc_durable_store.specs.Staged.{StagedState}
use Rattle.acc_durable_store.specs.Store.{step_answer}

-- a journal with nothing staged, and then with this group
pub staged_appends : {D : Type 0} (port : Ghosts D) (old mid : StagedState D) (new : D) (group : List (List ℕ)) (answer : Answer) → mid ≡ record old { group = old.group ++ group } → old.group ≡ [] → Appends port mid.disk new mid.payloads mid.group answer → Appends port old.disk new old.payloads group answer
staged_appends {D} port old mid new group answer is none appends =
    let same : mid ≡ record old { group = group } = is ∙ ap (λ (l : List (List ℕ)). record old { group = l ++ group }) none in
    subst (λ (j : StagedState D). Appends port j.disk new j.payloads j.group answer) same appends

-- a group that was settled, or nothing to settle
pub settled_disk : {D : Type 0} (port : Ghosts D) (old new : DurableStore D) (result : Result (Unit {0}) StepError) → (old.journal.group ≡ [] → (result ≡ Ok tt) × (new ≡ old))
    → (old.journal.group ≢ [] → Appends port old.journal.disk new.journal.disk old.journal.payloads old.journal.group (step_answer result))
    → ((port.state new.journal.disk).strict ≡ (port.state old.journal.disk).strict) × CountsFaults (IsErrOf (step_answer result) Failed) (port.state old.journal.disk).faults (port.state new.journal.disk).faults
settled_disk {D} port old new result nothing appends = of old.journal.group refl
  where
    of : (group : List (List ℕ)) → old.journal.group ≡ group → ((port.state new.journal.disk).strict ≡ (port.state old.journal.disk).strict) × CountsFaults (IsErrOf (step_answer result) Failed) (port.state old.journal.disk).faults (port.state new.journal.disk).faults
    of [] is =
        let none = nothing is in
        let passed : step_answer result ≡ Ok tt = ap step_answer none.0 in (
          ap (λ (s : DurableStore D). (port.state s.journal.disk).strict) none.1,
          record { cause = λ failed. absurd (cc (failed, passed)); unfailed = λ not. ap (λ (s : DurableStore D). (port.state s.journal.disk).faults) none.1 },
        )
    of (payload ∷ payloads) is =
        let asked = (appends (λ none. cc (none, is))).calls in
        (asked.kind, asked.faults)
