-- The spelling of messages.
use Rattle.std.specs.Prelude.{ℕ, List, [], ◌++◌}
use Rattle.acc_wire.specs.Spelling.{u8_bytes}
use Rattle.acc_stamp.specs.declared.stamps.Stamp.{Stamp}
use Rattle.acc_deps.specs.declared.shards.ShardDeps.{ShardDeps}
use Rattle.acc_txn.specs.declared.parts.BodyParts.{BodyParts}
use Rattle.acc_message.specs.declared.answer.ReadAnswer.{ReadAnswer}
use Rattle.acc_message.specs.declared.answer.ReadAnswer.TheVariants.{Values, Known}
use Rattle.acc_message.specs.declared.envelope.Envelope.{Envelope}
use Rattle.acc_message.specs.declared.message.Message.{Message}
use Rattle.acc_message.specs.declared.message.Message.TheVariants.{PreAccept, PreAcceptOk, Accept, AcceptOk, Commit, CommitOk, Stable, ReadOk, Apply, Recover, RecoverOk, Nack, Decided, Inform}
use Rattle.acc_message.specs.Fields.{envelope_of}
use Rattle.acc_code.specs.Spelling.{cells_bytes, outcome_bytes}
use Rattle.acc_txn.specs.BodySpelling.{body_bytes}
use Rattle.acc_message_code.specs.Spelling.{actor_bytes, id_bytes, ballot_bytes, deps_bytes, settled_bytes, view_bytes}

-- what all messages have in common
unfoldable pub envelope_bytes : Envelope → List ℕ
envelope_bytes e = actor_bytes e.from ++ actor_bytes e.to ++ id_bytes e.id ++ ballot_bytes e.ballot

-- an answer to a Stable is 1 and cells, or 2 and an outcome
unfoldable pub answer_bytes : ReadAnswer → List ℕ
answer_bytes (Values cells) = u8_bytes 1 ++ cells_bytes cells
answer_bytes (Known outcome) = u8_bytes 2 ++ outcome_bytes outcome

-- a timestamp and dependencies
abbrev pub dated_bytes : Stamp → List ShardDeps → List ℕ
dated_bytes t deps = settled_bytes (record { t = t; deps = deps })

-- a body with a timestamp and dependencies
unfoldable pub proposal_bytes : BodyParts → Stamp → List ShardDeps → List ℕ
proposal_bytes body t deps = body_bytes body ++ dated_bytes t deps

abbrev pub number_of : Message → ℕ
number_of (PreAccept from to id ballot body) = 1
number_of (PreAcceptOk from to id ballot vote deps) = 2
number_of (Accept from to id ballot body t deps) = 3
number_of (AcceptOk from to id ballot deps) = 4
number_of (Commit from to id ballot body t deps) = 5
number_of (CommitOk from to id ballot) = 6
number_of (Stable from to id ballot body t deps) = 7
number_of (ReadOk from to id ballot answer) = 8
number_of (Apply from to id ballot body t deps outcome) = 9
number_of (Recover from to id ballot body) = 10
number_of (RecoverOk from to id ballot view) = 11
number_of (Nack from to id ballot promised) = 12
number_of (Decided from to id ballot t deps) = 13
number_of (Inform from to id ballot outcome) = 14

-- what a message has besides
unfoldable pub content_bytes : Message → List ℕ
content_bytes (PreAccept from to id ballot body) = body_bytes body
content_bytes (PreAcceptOk from to id ballot vote deps) = dated_bytes vote deps
content_bytes (Accept from to id ballot body t deps) = proposal_bytes body t deps
content_bytes (AcceptOk from to id ballot deps) = deps_bytes deps
content_bytes (Commit from to id ballot body t deps) = proposal_bytes body t deps
content_bytes (CommitOk from to id ballot) = []
content_bytes (Stable from to id ballot body t deps) = proposal_bytes body t deps
content_bytes (ReadOk from to id ballot answer) = answer_bytes answer
content_bytes (Apply from to id ballot body t deps outcome) = proposal_bytes body t deps ++ outcome_bytes outcome
content_bytes (Recover from to id ballot body) = body_bytes body
content_bytes (RecoverOk from to id ballot view) = view_bytes view
content_bytes (Nack from to id ballot promised) = ballot_bytes promised
content_bytes (Decided from to id ballot t deps) = dated_bytes t deps
content_bytes (Inform from to id ballot outcome) = outcome_bytes outcome

-- a message is its number, what all have in common, and what it has besides
unfoldable pub message_bytes : Message → List ℕ
message_bytes m = u8_bytes (number_of m) ++ envelope_bytes (envelope_of m) ++ content_bytes m
