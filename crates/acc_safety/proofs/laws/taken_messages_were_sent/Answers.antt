use Rattle.acc_safety.proofs.SentFacts.{messages_were_sent}
use Rattle.acc_safety.proofs.laws.taken_messages_were_sent.Goals as goal

pub returns : goal.returns
returns c = messages_were_sent
