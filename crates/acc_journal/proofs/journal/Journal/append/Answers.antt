-- The group of one payload.
use Rattle.std.proofs.Common.{rules, ◌≡◌, ◌∙◌, subst, [], ◌∷◌, ◌++◌}
use Rattle.std.specs.Prelude.{OnOk, false}
use Rattle.acc_journal.specs.Layout.{payloads_of}
use Rattle.acc_journal.specs.Journal.{JournalState}
use Rattle.acc_journal.specs.Calls.{Appends, journal_answer}
use Rattle.acc_journal.proofs.Groups.{one_is_group, nothing_is_group}
use Rattle.acc_journal.proofs.journal.Journal.append.Goals as goal

pub invariant_of-self : goal.invariant_of-self
invariant_of-self g c =
    c.put_down.ensures.settled (c.args.payload.now ∷ []) (nothing_is_group c.args.payload.now (search rules))

pub returns-then-is_empty-clause-ok : goal.returns-then-is_empty-clause-ok
returns-then-is_empty-clause-ok g c =
    subst (λ (v : JournalState g.row.D.Denot). OnOk c.put_down.result ((c.put_down.new.broken ≡ false) × (payloads_of (g.D.Disk.state c.put_down.new.disk).content ≡ v.payloads ++ (c.args.payload.now ∷ [])))) c.self.view_is (c.put_down.ensures.ok (c.args.payload.now ∷ []) (nothing_is_group c.args.payload.now (search rules)))

pub returns-then-is_empty-clause-appends : goal.returns-then-is_empty-clause-appends
returns-then-is_empty-clause-appends g c =
    subst (λ (v : JournalState g.row.D.Denot). Appends g.D.Disk v.disk c.put_down.new.disk v.payloads (c.args.payload.now ∷ []) (journal_answer c.put_down.result)) c.self.view_is (c.put_down.ensures.appends (c.args.payload.now ∷ []) (nothing_is_group c.args.payload.now (search rules)))

pub invariant_of-self-2 : goal.invariant_of-self-2
invariant_of-self-2 g c =
    c.put_down-2.ensures.settled (c.args.payload.now ∷ []) (one_is_group c.args.payload.now _ c.requires.short (c.deref.ensures.value ∙ c.fill_one.ensures.items))

pub returns-clause-ok : goal.returns-clause-ok
returns-clause-ok g c =
    subst (λ (v : JournalState g.row.D.Denot). OnOk c.put_down-2.result ((c.put_down-2.new.broken ≡ false) × (payloads_of (g.D.Disk.state c.put_down-2.new.disk).content ≡ v.payloads ++ (c.args.payload.now ∷ [])))) c.self.view_is (c.put_down-2.ensures.ok (c.args.payload.now ∷ []) (one_is_group c.args.payload.now _ c.requires.short (c.deref.ensures.value ∙ c.fill_one.ensures.items)))

pub returns-clause-appends : goal.returns-clause-appends
returns-clause-appends g c =
    subst (λ (v : JournalState g.row.D.Denot). Appends g.D.Disk v.disk c.put_down-2.new.disk v.payloads (c.args.payload.now ∷ []) (journal_answer c.put_down-2.result)) c.self.view_is (c.put_down-2.ensures.appends (c.args.payload.now ∷ []) (one_is_group c.args.payload.now _ c.requires.short (c.deref.ensures.value ∙ c.fill_one.ensures.items)))
