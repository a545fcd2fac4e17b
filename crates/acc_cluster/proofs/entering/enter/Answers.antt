use Rattle.acc_cluster.proofs.Heavy.{too_heavy}
use Rattle.acc_cluster.proofs.entering.enter.Goals as goal

pub returns-then-saturating_add-gt-MOST_BYTES-clause-limit : goal.returns-then-saturating_add-gt-MOST_BYTES-clause-limit
returns-then-saturating_add-gt-MOST_BYTES-clause-limit c = λ s past place is.
    too_heavy c.args.history.now s c.args.item c.saturating_add.result c.weight.result c.args.weight c.if-saturating_add-gt-MOST_BYTES.true c.saturating_add.ensures (c.weight.ensures s past.weighed) past place is
