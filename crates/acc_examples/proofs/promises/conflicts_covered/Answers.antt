use Rattle.acc_examples.proofs.CoverageTested.{covered-hold, uncovered-refused}
use Rattle.acc_examples.proofs.promises.conflicts_covered.Goals as goal

pub returns : goal.returns
returns c = record { holds = covered-hold; fails = uncovered-refused }
