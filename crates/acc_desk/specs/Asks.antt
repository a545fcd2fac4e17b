-- What an actor in its slot is asked for.
use Rattle.acc_message.specs.declared.entry.Event.{Event}
use Rattle.acc_message.specs.declared.entry.Event.TheVariants.{Begin as BeginEvent, Recover as RecoverEvent, Message as MessageEvent}
use Rattle.acc_message.specs.NodeRules.{Act, Begins, Recovers, Takes}
use Rattle.acc_desk.specs.declared.ask.Ask.{Ask}
use Rattle.acc_desk.specs.declared.ask.Ask.TheVariants.{Begin, Recover, Message}

abbrev pub event_of : Ask → Event
event_of (Begin txn body) = BeginEvent txn
event_of (Recover txn id body) = RecoverEvent txn
event_of (Message number message) = MessageEvent number

abbrev pub act_of_ask : Ask → Act
act_of_ask (Begin txn body) = Begins txn body.now
act_of_ask (Recover txn id body) = Recovers id body.now
act_of_ask (Message number message) = Takes message.now
