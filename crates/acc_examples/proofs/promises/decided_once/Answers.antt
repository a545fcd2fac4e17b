use Rattle.acc_examples.proofs.AgreementTested.{agreeing-hold, disagreeing-refused}
use Rattle.acc_examples.proofs.promises.decided_once.Goals as goal

pub returns : goal.returns
returns c = record { holds = agreeing-hold; fails = disagreeing-refused }
