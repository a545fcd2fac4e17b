use Rattle.acc_report_laws.proofs.runs.reports_of_plans_are_read_again.Goals as goal

pub returns : goal.returns
returns c = record {
  forms = λ plan answers items print h numbered obeys within.
      c.reports_of_runs_are_read_again.ensures.forms plan items print (c.runs_can_be_told.ensures.schedule plan answers items h numbered obeys within);
  read = λ plan answers items print answer h numbered obeys within reads.
      c.reports_of_runs_are_read_again.ensures.read plan items print answer (c.runs_can_be_told.ensures.schedule plan answers items h numbered obeys within) reads;
}
