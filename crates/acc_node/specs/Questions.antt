-- The messages by which an attempt asks each store of a transaction for its vote or for what it knows.
use Rattle.std.specs.Prelude.{◌≡◌, ◌<◌, ◌^◌, Bool, List, map, cond}
use Rattle.acc_stamp.specs.declared.stamps.TxnId.{TxnId}
use Rattle.acc_stamp.specs.declared.stamps.Ballot.{Ballot}
use Rattle.acc_stamp.specs.declared.actors.Actor.{Actor}
use Rattle.acc_topology.specs.Layout.{Layout}
use Rattle.acc_txn.specs.declared.parts.BodyParts.{BodyParts}
use Rattle.acc_message.specs.declared.message.Message.{Message}
use Rattle.acc_message.specs.declared.message.Message.TheVariants.{PreAccept, Recover}
use Rattle.acc_message.specs.Shares.{stores_used}

-- with the body, which is all that such a message says
abbrev pub question : Bool → Actor → TxnId → Ballot → BodyParts → Actor → Message
question is_first from id ballot body to = cond is_first (PreAccept from to id ballot body) (Recover from to id ballot body)

pub record AreQuestions (layout : Layout) (body : BodyParts) (messages : List Message) : Type 0 where
  pub is_first : Bool
  pub from : Actor
  pub id : TxnId
  pub ballot : Ballot
  pub sender : from.0 < 2 ^ 16
  pub asks : messages ≡ map (question is_first from id ballot body) (stores_used layout body)
