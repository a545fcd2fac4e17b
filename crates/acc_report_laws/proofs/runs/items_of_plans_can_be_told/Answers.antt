use Rattle.acc_schedule_runs.specs.Schedules.{cluster_of}
use Rattle.acc_report_laws.proofs.Told.{are_names, few_notes}
use Rattle.acc_report_laws.proofs.runs.items_of_plans_can_be_told.Goals as goal

pub returns : goal.returns
returns c = record {
  names = λ plan h. are_names plan.names h.named;
  items = λ plan answers items h numbered obeys within.
      c.items_of_runs_can_be_told.ensures.items plan items (c.runs_can_be_told.ensures.schedule plan answers items h numbered obeys within);
  notes = λ plan answers items h obeys within. few_notes (cluster_of plan) items (c.plans_run_safely.ensures.run plan answers items h obeys) within;
}
