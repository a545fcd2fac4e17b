-- What was staged is settled: the group is that of the message alone.
use Rattle.std.proofs.Common.{◌≡◌, ◌≢◌, ℕ, ◌<◌, List, [], ◌∷◌, ◌++◌, length, Result, Err, refl, ap, sym, subst, ◌∙◌, arith}
use Rattle.std.proofs.lemmas.List.{length-append}
use Rattle.std.proofs.lemmas.Result.{err_from_is_err_and}
use Rattle.acc_message.specs.declared.message.Message.{Message}
use Rattle.acc_message_code.specs.MessageSpelling.{message_bytes}
use Rattle.acc_journal.specs.Calls.{Appends}
use Rattle.acc_journal.proofs.Appends.{no_append}
use Rattle.acc_payloads.specs.Journals.{appended}
use Rattle.acc_durable_store.specs.declared.error.StepError.{StepError}
use Rattle.acc_durable_store.specs.Staged.{StagedState}
use Rattle.acc_durable_store.specs.Store.{step_answer}
use Rattle.acc_payloads.proofs.Groups.{group_has_some}
use Rattle.acc_durable_store.proofs.Appended.{staged_appends}
use Rattle.acc_durable_store.proofs.store.DurableStore.step.Goals as goal

-- a group to which something was added
some_staged : (group front back : List (List ℕ)) → group ≡ front ++ back → 0 < length back → group ≢ []
some_staged group front back is some none =
    let nothing : length (front ++ back) ≡ 0 = ap length (sym is ∙ none) in
    omega (arith, length-append front back, nothing, some)

pub returns-in_err-prepared-clause-appends : goal.returns-in_err-prepared-clause-appends
returns-in_err-prepared-clause-appends g c =
    let p = err_from_is_err_and c.from_residual.result c.from_residual.ensures.1 in
    let journal = c.args.self.now.journal in
    subst (λ (r : Result (List Message) StepError). Appends g.D.Disk journal.disk journal.disk journal.payloads (appended c.args.self.now.version c.args.self.now.marked (message_bytes c.args.m.now)) (step_answer r)) (sym (p.1 ∙ ap Err p.2))
    (no_append g.D.Disk journal.disk journal.disk journal.payloads _ (g.met.D.Disk.only_now journal.disk) (c.is_broken-sound.ensures.sound c.requires.can.sound) refl)

pub returns-in_err-sent-clause-appends : goal.returns-in_err-sent-clause-appends
returns-in_err-sent-clause-appends g c =
    let p = err_from_is_err_and c.from_residual-in_err-sent.result c.from_residual-in_err-sent.ensures.1 in
    let journal = c.args.self.now.journal in
    subst (λ (r : Result (List Message) StepError). Appends g.D.Disk journal.disk c.stage.new.self.journal.disk journal.payloads (appended c.args.self.now.version c.args.self.now.marked (message_bytes c.args.m.now)) (step_answer r)) (sym (p.1 ∙ ap Err p.2))
    (no_append g.D.Disk journal.disk c.stage.new.self.journal.disk journal.payloads _ (g.met.D.Disk.only_now journal.disk) (c.is_broken-sound.ensures.sound c.requires.can.sound)
    (ap (λ (j : StagedState g.row.D.Denot). j.disk) c.in_err-sent.ensures.err.journal))

pub returns-in-Ok-clause-ok : goal.returns-in-Ok-clause-ok
returns-in-Ok-clause-ok g c = λ messages stands.
    let taken = c.in_ok-sent.ensures.ok messages stands in
    record { answers = taken.answers; stands = c.in-Ok.ensures.ok c.args.topology.now (c.args.m.now ∷ messages) taken.stands }

pub returns-in-Ok-clause-appends : goal.returns-in-Ok-clause-appends
returns-in-Ok-clause-appends g c =
    let some : c.stage.new.self.journal.group ≢ [] =
    some_staged _ c.args.self.now.journal.group _ (ap (λ (j : StagedState g.row.D.Denot). j.group) c.in_ok-sent.ensures.journal) (group_has_some c.args.self.now.version c.args.self.now.marked (message_bytes c.args.m.now)) in
    staged_appends g.D.Disk c.args.self.now.journal c.stage.new.self.journal c.settle.new.self.journal.disk _ _ c.in_ok-sent.ensures.journal c.requires.none_staged (c.in-Ok.ensures.appends some)

pub returns-in-Err-DiskFault-clause-appends : goal.returns-in-Err-DiskFault-clause-appends
returns-in-Err-DiskFault-clause-appends g c =
    let some : c.stage.new.self.journal.group ≢ [] =
    some_staged _ c.args.self.now.journal.group _ (ap (λ (j : StagedState g.row.D.Denot). j.group) c.in_ok-sent.ensures.journal) (group_has_some c.args.self.now.version c.args.self.now.marked (message_bytes c.args.m.now)) in
    staged_appends g.D.Disk c.args.self.now.journal c.stage.new.self.journal c.settle.new.self.journal.disk _ _ c.in_ok-sent.ensures.journal c.requires.none_staged
    (subst (λ (e : StepError). Appends g.D.Disk c.stage.new.self.journal.disk c.settle.new.self.journal.disk c.stage.new.self.journal.payloads c.stage.new.self.journal.group (step_answer {T = Unit {0}} (Err e))) c.in-Err-DiskFault.field-0-is (c.in-Err-DiskFault.ensures.appends some))

pub returns-in-Err-OutOfMemory-clause-appends : goal.returns-in-Err-OutOfMemory-clause-appends
returns-in-Err-OutOfMemory-clause-appends g c =
    let some : c.stage.new.self.journal.group ≢ [] =
    some_staged _ c.args.self.now.journal.group _ (ap (λ (j : StagedState g.row.D.Denot). j.group) c.in_ok-sent.ensures.journal) (group_has_some c.args.self.now.version c.args.self.now.marked (message_bytes c.args.m.now)) in
    staged_appends g.D.Disk c.args.self.now.journal c.stage.new.self.journal c.settle.new.self.journal.disk _ _ c.in_ok-sent.ensures.journal c.requires.none_staged
    (subst (λ (e : StepError). Appends g.D.Disk c.stage.new.self.journal.disk c.settle.new.self.journal.disk c.stage.new.self.journal.payloads c.stage.new.self.journal.group (step_answer {T = Unit {0}} (Err e))) c.in-Err-OutOfMemory.field-0-is (c.in-Err-OutOfMemory.ensures.appends some))
