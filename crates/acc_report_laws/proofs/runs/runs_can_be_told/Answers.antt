use Rattle.acc_report_laws.proofs.Cases.{obeyed, gone_on, freely}
use Rattle.acc_report_laws.proofs.runs.runs_can_be_told.Goals as goal

pub returns : goal.returns
returns c = record {
  schedule = λ plan answers items h numbered obeys within. obeyed plan answers items h numbered (c.plans_are_valid.ensures plan h) obeys within;
  more = λ plan answers steps between last h numbered follows on known numbers short within.
      gone_on plan answers h numbered (c.plans_are_valid.ensures plan h) steps between last follows on known numbers short within;
  free = freely;
}
