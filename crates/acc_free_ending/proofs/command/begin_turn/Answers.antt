use Rattle.acc_schedule_runs.specs.Situations.{whole}
use Rattle.acc_free_ending.proofs.Turning.{begin_down, begin_again, begin_ready}
use Rattle.acc_free_ending.proofs.command.begin_turn.Goals as goal

pub returns-then-is_down : goal.returns-then-is_down
returns-then-is_down g c = λ plan s h. begin_down c.args.actor (whole s) c.args.txn c.is_down.result (c.is_down.ensures plan s h) c.if-is_down.true

pub returns-then-is_begun : goal.returns-then-is_begun
returns-then-is_begun g c = λ plan s h. begin_again c.args.actor (whole s) c.args.txn c.is_begun.result (c.is_begun.ensures plan s h) c.if-is_begun.true

pub returns : goal.returns
returns g c = λ plan s h.
    begin_ready c.args.actor (whole s) c.args.txn c.is_down.result c.is_begun.result (c.is_down.ensures plan s h) c.if-is_down.false (c.is_begun.ensures plan s h) c.if-is_begun.false
