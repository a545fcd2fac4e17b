use Rattle.acc_schedule_runs.specs.Schedules.{cluster_of}
use Rattle.acc_audit_laws.proofs.Passed.{run_keeps}
use Rattle.acc_audit_laws.proofs.runs.runs_are_passed.Goals as goal

pub returns : goal.returns
returns c = record {
  fit = λ plan items is_plan run fit.
      let valid = c.plans_are_valid.ensures plan is_plan in
      run_keeps plan items is_plan valid run fit (c.agreement.ensures (cluster_of plan) items valid run) (c.coverage.ensures (cluster_of plan) items valid run)
      (c.serial.ensures (cluster_of plan) items valid run) (c.replies_are_few.ensures (cluster_of plan) items run);
  told = λ plan items h.
      let valid = c.plans_are_valid.ensures plan h.is_plan in
      run_keeps plan items h.is_plan valid h.run (c.items_of_runs_can_be_told.ensures.items plan items h) (c.agreement.ensures (cluster_of plan) items valid h.run)
      (c.coverage.ensures (cluster_of plan) items valid h.run) (c.serial.ensures (cluster_of plan) items valid h.run) (c.replies_are_few.ensures (cluster_of plan) items h.run);
}
