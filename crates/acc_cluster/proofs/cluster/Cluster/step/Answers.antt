use Rattle.std.proofs.Common.{sym}
use Rattle.std.proofs.lemmas.Bool.{true≢false}
use Rattle.acc_cluster.proofs.cluster.Cluster.step.Goals as goal

pub step_by-requires-clause-standing : goal.step_by-requires-clause-standing
step_by-requires-clause-standing g c = λ untested. c.requires.standing

pub step_by-requires-clause-tested : goal.step_by-requires-clause-tested
step_by-requires-clause-tested g c = λ tests. absurd (true≢false (sym tests))
