-- The group of all payloads.
use Rattle.std.proofs.Common.{rules, ◌≡◌, ◌∙◌, subst, [], ◌∷◌, ◌++◌}
use Rattle.std.specs.Prelude.{OnOk, false}
use Rattle.acc_journal.specs.Layout.{payloads_of, records}
use Rattle.acc_journal.specs.Journal.{JournalState}
use Rattle.acc_journal.specs.Calls.{Appends, journal_answer}
use Rattle.acc_journal.proofs.Groups.{some_are_group}
use Rattle.acc_journal.proofs.journal.Journal.append_group.Goals as goal

pub invariant_of-self : goal.invariant_of-self
invariant_of-self g c =
    let filled : c.fill.new.buffer.items ≡ records c.args.payloads.now ++ 0 ∷ [] = search rules in
    c.put_down.ensures.settled c.args.payloads.now (some_are_group c.args.payloads.now _ c.requires.some c.requires.short (c.deref.ensures.value ∙ filled))

pub returns-clause-ok : goal.returns-clause-ok
returns-clause-ok g c =
    let filled : c.fill.new.buffer.items ≡ records c.args.payloads.now ++ 0 ∷ [] = search rules in
    subst (λ (v : JournalState g.row.D.Denot). OnOk c.put_down.result ((c.put_down.new.broken ≡ false) × (payloads_of (g.D.Disk.state c.put_down.new.disk).content ≡ v.payloads ++ c.args.payloads.now))) c.self.view_is (c.put_down.ensures.ok c.args.payloads.now (some_are_group c.args.payloads.now _ c.requires.some c.requires.short (c.deref.ensures.value ∙ filled)))

pub returns-clause-appends : goal.returns-clause-appends
returns-clause-appends g c =
    let filled : c.fill.new.buffer.items ≡ records c.args.payloads.now ++ 0 ∷ [] = search rules in
    subst (λ (v : JournalState g.row.D.Denot). Appends g.D.Disk v.disk c.put_down.new.disk v.payloads c.args.payloads.now (journal_answer c.put_down.result)) c.self.view_is (c.put_down.ensures.appends c.args.payloads.now (some_are_group c.args.payloads.now _ c.requires.some c.requires.short (c.deref.ensures.value ∙ filled)))
