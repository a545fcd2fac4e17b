use Rattle.acc_free_laws.proofs.Going.{gone_each}
use Rattle.acc_free_laws.proofs.Over.{went_over, gone_over, serving_together, serving_over}
use Rattle.acc_free_laws.proofs.laws.turns_go_by.Goals as goal

pub returns : goal.returns
returns c = record {
  went = went_over;
  serving = serving_over;
  gone = gone_over;
  together = λ plan items stopped valid free each.
      serving_together plan items stopped (c.plans_are_valid.ensures plan valid) (c.plans_have_few_bodies.ensures plan valid) free each;
  each = gone_each;
}
