use Rattle.acc_free_laws.proofs.Fitting.{nothing_fits}
use Rattle.acc_free_laws.proofs.Going.{gone_begins}
use Rattle.acc_free_laws.proofs.Serving.{serving_begins}
use Rattle.acc_free_laws.proofs.laws.free_runs_begin.Goals as goal

pub returns : goal.returns
returns c = record {
  items = nothing_fits;
  serving = λ plan valid. serving_begins plan (c.plans_are_valid.ensures plan valid) (c.plans_have_few_bodies.ensures plan valid);
  gone = gone_begins;
}
