use Rattle.acc_safety.proofs.Bridge.{sender}
use Rattle.acc_safety.proofs.Frame.{homes_are_one}
use Rattle.acc_safety.proofs.laws.messages_have_senders.Goals as goal

pub returns-clause-sender : goal.returns-clause-sender
returns-clause-sender c = sender

pub returns-clause-home : goal.returns-clause-home
returns-clause-home c = homes_are_one
