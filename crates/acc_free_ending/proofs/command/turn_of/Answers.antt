use Rattle.acc_schedule_runs.specs.Situations.{whole}
use Rattle.acc_schedule_runs.specs.Schedules.{cluster_of}
use Rattle.acc_free_ending.specs.declared.command.Turn.TheVariants.{Takes, Waits}
use Rattle.acc_free_ending.proofs.Turning.{turned, never_any}
use Rattle.acc_free_ending.proofs.command.turn_of.Goals as goal

pub returns-in-Begin : goal.returns-in-Begin
returns-in-Begin g c = λ plan s h. turned c.args.actor (whole s) c.begin_turn.result _ _ c.in-Begin.is (c.begin_turn.ensures plan s h)

pub returns-in-Recover : goal.returns-in-Recover
returns-in-Recover g c = λ plan s h. turned c.args.actor (whole s) c.recover_turn.result _ _ c.in-Recover.is (c.recover_turn.ensures plan s h)

pub returns-in-Restart : goal.returns-in-Restart
returns-in-Restart g c = λ plan s h. turned c.args.actor (whole s) Takes _ _ c.in-Restart.is tt

pub returns-in-Deliver : goal.returns-in-Deliver
returns-in-Deliver g c = λ plan s h. never_any c.args.actor (whole s) (cluster_of c.requires.0) Waits c.args.command.now c.requires.1 c.in-Deliver.is
