use Rattle.std.proofs.Common.{◌∙◌, subst}
use Rattle.std.specs.List.{AllByRecursion}
use Rattle.std.proofs.lemmas.List.{take_all}
use Rattle.acc_cluster.specs.Restarting.{CanBeEntered}
use Rattle.acc_cluster.proofs.KeepsTested.{all_next}
use Rattle.acc_cluster.proofs.restarting.check_kept.Goals as goal

pub loop-unsent-preserved : goal.loop-unsent-preserved
loop-unsent-preserved c =
    all_next (CanBeEntered c.args.history.now) c.as_slice-unsent-items.result.now c.loop-unsent.unsent-index c.unsent-item.result c.loop-unsent-test.true c.loop-unsent.invariant
    (subst (CanBeEntered c.args.history.now) c.unsent-item.is (c.can_be_entered.ensures c.if-not-can_be_entered.false))

pub returns : goal.returns
returns c = λ tests.
    subst (AllByRecursion (CanBeEntered c.args.history.now)) (take_all c.loop-unsent.unsent-index c.as_slice-unsent-items.result.now c.loop-unsent-test.false ∙ c.as_slice-unsent-items.ensures)
    c.loop-unsent.invariant
