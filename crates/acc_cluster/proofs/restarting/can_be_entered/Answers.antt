use Rattle.std.proofs.Common.{sym, ◌∙◌}
use Rattle.acc_cluster.proofs.KeepsTested.{sent_below}
use Rattle.acc_cluster.proofs.restarting.can_be_entered.Goals as goal

pub returns : goal.returns
returns c = λ is. record {
  takes = λ s stands.
      sent_below s c.sent.result c.args.unsent.now.event (sym c.takes_below.ensures ∙ c.if-not-takes_below.false) (c.sent.ensures s stands);
  sends = c.can_be_sent.ensures is;
}
