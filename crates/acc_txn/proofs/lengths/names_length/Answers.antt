use Rattle.std.proofs.Common.{arith}
use Rattle.acc_txn.specs.BodySpelling.{listed}
use Rattle.acc_txn.proofs.ByteCounts.{length-bytes}
use Rattle.acc_txn.proofs.lengths.names_length.Goals as goal

pub returns-clause-exact : goal.returns-clause-exact
unfolding listed
returns-clause-exact c = omega (arith, length-bytes c.args.names.now)
