use Rattle.acc_schedule_runs.specs.Schedules.{cluster_of}
use Rattle.acc_report_laws.proofs.Told.{items_fit, few_notes}
use Rattle.acc_report_laws.proofs.runs.items_of_runs_can_be_told.Goals as goal

pub returns : goal.returns
returns c = record {
  items = λ plan items h.
      let valid = c.plans_are_valid.ensures plan h.is_plan in
      items_fit plan items h valid (c.serial.ensures (cluster_of plan) items valid h.run);
  notes = λ plan items h. few_notes (cluster_of plan) items h.run h.within;
}
