use Rattle.acc_cluster.proofs.RestartItems.{lost_ends, full_ends, lost_enters}
use Rattle.acc_cluster.proofs.restarting.enter_lost.Goals as goal

pub returns-in_err-enter_entry-clause-limit : goal.returns-in_err-enter_entry-clause-limit
returns-in_err-enter_entry-clause-limit c =
    lost_ends c.from_residual.result c.args.history.now c.enter_entry.new.history c.args.actor c.args.unsent
    c.in_err-enter_entry.field-0.0 c.from_residual.ensures.1 c.in_err-enter_entry.ensures.limit c.in_err-enter_entry.ensures.as_before

pub returns-clause-ok : goal.returns-clause-ok
returns-clause-ok c =
    lost_enters c.check_place.result c.args.history.now c.enter_entry.new.history c.args.actor c.args.unsent
    c.in_ok-enter_entry.ensures.ok c.check_place.ensures.ok

pub returns-clause-limit : goal.returns-clause-limit
returns-clause-limit c =
    full_ends c.check_place.result c.args.history.now c.enter_entry.new.history c.args.actor c.args.unsent
    c.in_ok-enter_entry.ensures.ok c.check_place.ensures.limit
