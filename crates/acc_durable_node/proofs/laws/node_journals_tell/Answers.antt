use Rattle.acc_durable_node.proofs.Standing.{begin_in_doubt, recover_in_doubt}
use Rattle.acc_durable_node.proofs.Journals.{stands_tells, told_on, told_higher}
use Rattle.acc_durable_node.proofs.laws.node_journals_tell.Goals as goal

pub returns : goal.returns
returns g c = record {
  stands = stands_tells;
  begins = λ layout n acts txn body small low stands fresh. begin_in_doubt layout n acts txn small low stands body fresh;
  recovers = λ layout n acts txn id body small low stands. recover_in_doubt layout n acts txn small low stands id body;
  restarts = told_on;
  higher = told_higher;
}
