use Rattle.acc_cluster.proofs.RestartItems.{kept_ends, up_enters, up_ends}
use Rattle.acc_cluster.specs.Restarting.{with_lost}
use Rattle.acc_cluster.proofs.Taken.{on_ok}
use Rattle.acc_cluster.proofs.KeepsTested.{restart_grown}
use Rattle.acc_cluster.proofs.restarting.come_up.Goals as goal

pub returns-in_err-enter_kept-clause-limit : goal.returns-in_err-enter_kept-clause-limit
returns-in_err-enter_kept-clause-limit c =
    kept_ends c.from_residual-in_err-enter_kept.result c.args.history.now c.enter_kept.new.history c.enter_kept.new.history c.args.actor c.args.kept
    c.in_err-enter_kept.field-0.0 c.from_residual-in_err-enter_kept.ensures.1 c.in_err-enter_kept.ensures.limit

pub returns-clause-ok : goal.returns-clause-ok
returns-clause-ok c =
    up_enters c.enter_restart.result c.args.history.now c.enter_kept.new.history c.enter_restart.new.history c.args.actor c.args.kept
    c.in_ok-count.count c.in_ok-count.ensures c.in_ok-enter_kept.ensures.ok c.enter_restart.ensures.ok

pub returns-clause-limit : goal.returns-clause-limit
returns-clause-limit c =
    up_ends c.enter_restart.result c.args.history.now c.enter_kept.new.history c.enter_restart.new.history c.args.actor c.args.kept
    c.in_ok-count.count c.in_ok-count.ensures c.in_ok-enter_kept.ensures.ok c.enter_restart.ensures.as_before c.enter_restart.ensures.limit

pub returns-clause-grown : goal.returns-clause-grown
returns-clause-grown c =
    on_ok _ _ c.enter_restart.result
    (λ enter cluster s back.
    let lost = c.in_ok-enter_kept.ensures.ok s back in
    restart_grown cluster c.args.actor c.args.kept c.in_ok-count.count s c.enter_restart.new.history (enter cluster (with_lost c.args.actor c.args.kept s) lost.0 lost.1))
    c.enter_restart.ensures.ok
