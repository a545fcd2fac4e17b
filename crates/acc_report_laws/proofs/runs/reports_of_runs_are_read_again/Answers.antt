use Rattle.std.proofs.Common.{[]}
use Rattle.acc_report_laws.proofs.Told.{are_names}
use Rattle.acc_report_laws.proofs.runs.reports_of_runs_are_read_again.Goals as goal

pub returns : goal.returns
returns c = record {
  forms = λ plan items print h.
      c.the_lines_have_forms.ensures print plan.names [] items (are_names plan.names h.is_plan.named) (c.items_of_runs_can_be_told.ensures.items plan items h)
      (c.items_of_runs_can_be_told.ensures.notes plan items h);
  read = λ plan items print answer h reads.
      c.a_report_is_read_again.ensures print plan.names [] items answer (are_names plan.names h.is_plan.named)
      (c.items_of_runs_can_be_told.ensures.items plan items h) (c.items_of_runs_can_be_told.ensures.notes plan items h) reads;
}
