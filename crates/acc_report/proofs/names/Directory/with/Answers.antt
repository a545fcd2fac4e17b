use Rattle.std.proofs.Common.{ap, ◌∙◌}
use Rattle.acc_base.specs.Faults.{or_else}
use Rattle.acc_message.specs.Items.{sent_in, txn_in, txn_of}
use Rattle.acc_report.specs.Known.{number_at}
use Rattle.acc_report.specs.Report.{number_in}
use Rattle.acc_report.proofs.Steps.{or_else-assoc}
use Rattle.acc_report.proofs.names.Directory.with.Goals as goal

pub returns : goal.returns
returns c names roll items is = (
  is.0,
  λ x. c.in_ok-enter_item.ensures (sent_in c.args.item.now) x
      ∙ ap (λ item. or_else (number_at c.args.self.numbers x) (txn_in x item)) c.of.ensures
      ∙ ap (λ found. or_else found (txn_in x c.args.item.now)) (is.1 x)
      ∙ or_else-assoc (number_in roll x) (txn_of items x) (txn_in x c.args.item.now),
)
