use Rattle.std.proofs.Common.{ap}
use Rattle.acc_journal.specs.Journal.{JournalState}
use Rattle.acc_durable_node.proofs.Keeping.{armed_stands}
use Rattle.acc_durable_node.proofs.node.DurableNode.arm.Goals as goal

pub returns-clause-stands : goal.returns-clause-stands
returns-clause-stands g c = λ layout acts stands.
    armed_stands layout c.args.self.now c.arm.new.self acts (ap (λ (j : JournalState g.row.D.Denot). j.payloads) c.arm.ensures.same) (ap (λ (j : JournalState g.row.D.Denot). j.broken) c.arm.ensures.same) stands
