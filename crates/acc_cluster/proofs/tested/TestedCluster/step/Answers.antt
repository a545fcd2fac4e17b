use Rattle.std.proofs.Common.{refl}
use Rattle.std.proofs.lemmas.Bool.{true≢false}
use Rattle.acc_cluster.proofs.tested.TestedCluster.step.Goals as goal

pub step_by-requires-clause-standing : goal.step_by-requires-clause-standing
step_by-requires-clause-standing g c = λ untested. absurd (true≢false untested)

pub step_by-requires-clause-tested : goal.step_by-requires-clause-tested
step_by-requires-clause-tested g c = λ tests. c.requires.tested

pub returns-clause-tested : goal.returns-clause-tested
returns-clause-tested g c = c.step_by.ensures.tested refl
