use Rattle.std.proofs.Common.{ap, ◌∙◌}
use Rattle.acc_message_code.specs.Weight.{weight_of_all}
use Rattle.acc_cluster.specs.Entering.{step_item}
use Rattle.acc_cluster.proofs.Heavy.{too_heavy}
use Rattle.acc_cluster.proofs.entering.enter_entry.Goals as goal

pub returns-then-saturating_add-gt-MOST_BYTES-clause-limit : goal.returns-then-saturating_add-gt-MOST_BYTES-clause-limit
returns-then-saturating_add-gt-MOST_BYTES-clause-limit c = λ s past place.
    let weighs = c.messages_length-weight.ensures ∙ ap weight_of_all c.as_slice.ensures in
    (too_heavy c.args.history.now s (step_item c.args.actor c.args.event c.args.emitted c.args.lost) c.saturating_add.result c.weight.result c.messages_length-weight.result c.if-saturating_add-gt-MOST_BYTES.true c.saturating_add.ensures (c.weight.ensures s past.weighed) past place weighs).1
