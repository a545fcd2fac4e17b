-- Reading a message about a transaction that is known.
use Rattle.std.specs.Prelude.{◌≡◌, List, ℕ, ◌++◌}
use Rattle.acc_wire.specs.Spelling.{u8_bytes}
use Rattle.acc_wire.specs.Reading.{AreBytes}
use Rattle.acc_deps.specs.declared.records.Settled.{Settled}
use Rattle.acc_txn.specs.declared.parts.BodyParts.{BodyParts}
use Rattle.acc_txn.specs.BodySpelling.{body_bytes}
use Rattle.acc_message.specs.declared.message.Message.{Message}
use Rattle.acc_message.specs.Fields.{envelope_of}
use Rattle.acc_message_code.specs.declared.shared_parts.Head.{Head}
use Rattle.acc_message_code.specs.Spelling.{settled_bytes}
use Rattle.acc_message_code.specs.Fitting.{FitsEnvelope, FitsSettled, HasFittingContent, FitsMessage}
use Rattle.acc_message_code.specs.MessageSpelling.{envelope_bytes, number_of, content_bytes, message_bytes}

-- these bytes begin with a head, and after it the others are left
pub record IsHead (bytes rest : List ℕ) (head : Head) : Type 0 where
  pub spelled : bytes ≡ u8_bytes head.number ++ (envelope_bytes head.envelope ++ rest)
  pub fits : FitsEnvelope head.envelope
  pub are_bytes : AreBytes rest

-- these bytes begin with a timestamp and dependencies, and after them the others are left
pub record AreSettled (bytes : List ℕ) (settled : Settled) (rest : List ℕ) : Type 0 where
  pub spelled : bytes ≡ settled_bytes settled ++ rest
  pub fits : FitsSettled settled

-- the message has this head, and these bytes stand in it after the body
pub record IsBehind (head : Head) (body : BodyParts) (bytes : List ℕ) (m : Message) : Type 0 where
  pub number : number_of m ≡ head.number
  pub envelope : envelope_of m ≡ head.envelope
  pub spelled : content_bytes m ≡ body_bytes body ++ bytes
  pub fits : HasFittingContent m

-- all of the bytes spell the message
pub record IsWhole (bytes : List ℕ) (m : Message) : Type 0 where
  pub spelled : bytes ≡ message_bytes m
  pub fits : FitsMessage m
