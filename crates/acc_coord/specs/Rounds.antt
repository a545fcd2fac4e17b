-- The messages that a coordinator sends to all stores.
use Rattle.acc_stamp.specs.declared.actors.Actor.{Actor}
use Rattle.acc_deps.specs.declared.records.Settled.{Settled}
use Rattle.acc_message.specs.declared.message.Message.{Message}
use Rattle.acc_message.specs.declared.message.Message.TheVariants.{PreAccept, Accept, Commit, Stable, Apply}
use Rattle.acc_txn.specs.declared.outcome.Outcome.{Outcome}
use Rattle.acc_coord.specs.declared.coord.Coord.{Coord}
use Rattle.acc_coord.specs.declared.rounds.Round.{Round}
use Rattle.acc_coord.specs.declared.rounds.Round.TheVariants.{Propose, Fix, Decided}
use Rattle.acc_coord.specs.Stands.{own_of}

abbrev pub message_to : Coord → Round → Settled → Actor → Message
message_to c Propose s store = Accept (own_of c) store c.id c.ballot c.body s.t s.deps
message_to c Fix s store = Commit (own_of c) store c.id c.ballot c.body s.t s.deps
message_to c Decided s store = Stable (own_of c) store c.id c.ballot c.body s.t s.deps

abbrev pub question_to : Coord → Actor → Message
question_to c store = PreAccept (own_of c) store c.id c.ballot c.body

abbrev pub apply_to : Coord → Settled → Outcome → Actor → Message
apply_to c s outcome store = Apply (own_of c) store c.id c.ballot c.body s.t s.deps outcome
