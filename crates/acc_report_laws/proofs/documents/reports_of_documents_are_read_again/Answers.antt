use Rattle.acc_report_laws.proofs.documents.reports_of_documents_are_read_again.Goals as goal

pub returns : goal.returns
returns c = record {
  forms = λ bytes plan answers items print h means obeys within.
      c.reports_of_plans_are_read_again.ensures.forms plan answers items print h (c.numbers_of_documents_fit.ensures bytes plan h means) obeys within;
  read = λ bytes plan answers items print answer h means obeys within reads.
      c.reports_of_plans_are_read_again.ensures.read plan answers items print answer h (c.numbers_of_documents_fit.ensures bytes plan h means) obeys within reads;
}
