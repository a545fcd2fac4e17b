use Rattle.acc_execute.proofs.Taking.{is_taking, are_of}
use Rattle.acc_execute.proofs.Knowing.{is_known}
use Rattle.acc_execute.proofs.laws.records_tell_the_step.Goals as goal

pub returns-clause-taking : goal.returns-clause-taking
returns-clause-taking c = is_taking

pub returns-clause-reads : goal.returns-clause-reads
returns-clause-reads c = are_of

pub returns-clause-known : goal.returns-clause-known
returns-clause-known c = is_known
