use Rattle.std.proofs.Common.{ap, refl, ◌∙◌}
use Rattle.acc_journal.specs.Journal.{JournalState}
use Rattle.acc_durable_store.specs.Staged.{StagedState}
use Rattle.acc_durable_store.proofs.Stores.{fresh_stands, fresh_reads}
use Rattle.acc_durable_store.proofs.store.DurableStore.fresh.Goals as goal

pub returns-clause-stands : goal.returns-clause-stands
returns-clause-stands g c = λ layout.
    fresh_stands layout _ (ap (λ (j : StagedState g.row.D.Denot). j.broken) c.new-2.ensures ∙ ap (λ (j : JournalState g.row.D.Denot). j.broken) c.fresh.ensures)
    (ap (λ (j : StagedState g.row.D.Denot). j.payloads) c.new-2.ensures ∙ ap (λ (j : JournalState g.row.D.Denot). j.payloads) c.fresh.ensures)
    (ap (λ (j : StagedState g.row.D.Denot). j.group) c.new-2.ensures) refl refl refl (c.new.ensures.stands layout)

pub returns-clause-lasts : goal.returns-clause-lasts
returns-clause-lasts g c =
    fresh_reads (g.D.Disk.is_image) c.new-2.result.disk c.args.disk (ap (λ (j : StagedState g.row.D.Denot). j.disk) c.new-2.ensures ∙ ap (λ (j : JournalState g.row.D.Denot). j.disk) c.fresh.ensures)
    (λ image is. c.requires.rest.only image is ∙ c.requires.content)
