use Rattle.std.proofs.Common.{ap, refl}
use Rattle.acc_journal.specs.Journal.{JournalState}
use Rattle.acc_durable_node.proofs.Standing.{fresh_stands}
use Rattle.acc_durable_node.proofs.node.DurableNode.fresh.Goals as goal

pub returns-clause-stands : goal.returns-clause-stands
returns-clause-stands g c = λ layout.
    fresh_stands layout _ (ap (λ (j : JournalState g.row.D.Denot). j.broken) c.fresh.ensures) (ap (λ (j : JournalState g.row.D.Denot). j.payloads) c.fresh.ensures) refl refl (c.new.ensures layout)
