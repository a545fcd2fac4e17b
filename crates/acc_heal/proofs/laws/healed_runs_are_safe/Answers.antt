use Rattle.acc_schedule_runs.specs.Schedules.{cluster_of}
use Rattle.acc_heal.proofs.HealedRuns.{healed_is_run}
use Rattle.acc_heal.proofs.laws.healed_runs_are_safe.Goals as goal

pub returns-clause-run : goal.returns-clause-run
returns-clause-run c = healed_is_run c.healing_goes_on.ensures.run

pub returns-clause-agreement : goal.returns-clause-agreement
returns-clause-agreement c = λ plan answers items is_plan h.
    c.agreement.ensures (cluster_of plan) items (c.plans_are_valid.ensures plan is_plan) (healed_is_run c.healing_goes_on.ensures.run plan answers items is_plan h)

pub returns-clause-coverage : goal.returns-clause-coverage
returns-clause-coverage c = λ plan answers items is_plan h.
    c.coverage.ensures (cluster_of plan) items (c.plans_are_valid.ensures plan is_plan) (healed_is_run c.healing_goes_on.ensures.run plan answers items is_plan h)

pub returns-clause-serial : goal.returns-clause-serial
returns-clause-serial c = λ plan answers items is_plan h.
    c.serial.ensures (cluster_of plan) items (c.plans_are_valid.ensures plan is_plan) (healed_is_run c.healing_goes_on.ensures.run plan answers items is_plan h)
