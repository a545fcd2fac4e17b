-- Reading messages.
use Rattle.std.specs.Prelude.{◌≡◌, ℕ, Bool, true, false, ◌==◌, ◌||◌, List, Result, Ok, Err, if◌then◌else◌}
use Rattle.acc_wire.specs.declared.error.WireError.{WireError}
use Rattle.acc_wire.specs.Reading.{Unread, Read, ◌>>=◌, end_at}
use Rattle.acc_deps.specs.declared.records.Settled.{Settled}
use Rattle.acc_txn.specs.declared.parts.BodyParts.{BodyParts}
use Rattle.acc_message.specs.declared.answer.ReadAnswer.{ReadAnswer}
use Rattle.acc_message.specs.declared.answer.ReadAnswer.TheVariants.{Values, Known}
use Rattle.acc_message.specs.declared.envelope.Envelope.{Envelope}
use Rattle.acc_message.specs.declared.message.Message.{Message}
use Rattle.acc_message.specs.declared.message.Message.TheVariants.{PreAccept, PreAcceptOk, Accept, AcceptOk, Commit, CommitOk, Stable, ReadOk, Apply, Recover, RecoverOk, Nack, Decided, Inform}
use Rattle.acc_code.specs.declared.error.CodeError.{CodeError}
use Rattle.acc_code.specs.declared.error.CodeError.TheVariants.{Wire, OutOfMemory}
use Rattle.acc_code.specs.Reading.{between_at}
use Rattle.acc_code.specs.CellReading.{cells_at, outcome_at}
use Rattle.acc_code.specs.BodyReading.{body_at}
use Rattle.acc_message_code.specs.Reading.{actor_at, id_at, ballot_at, deps_at, settled_at, view_at}

unfoldable pub envelope_at : Unread → Read Envelope
envelope_at u = do
  from ← actor_at u
  to ← actor_at from.1
  id ← id_at to.1
  ballot ← ballot_at id.1
  Ok (record { from = from.0; to = to.0; id = id.0; ballot = ballot.0 }, ballot.1)

-- what stands after the first byte of an answer to a Stable, which are cells or else an outcome
abbrev pub answer_behind : Bool → Unread → Read ReadAnswer
answer_behind true u = do
  cells ← cells_at u
  Ok (Values cells.0, cells.1)
answer_behind false u = do
  outcome ← outcome_at u
  Ok (Known outcome.0, outcome.1)

unfoldable pub answer_at : Unread → Read ReadAnswer
answer_at u = do
  number ← between_at 1 2 u
  answer_behind (number.0 == 1) number.1

-- a body with a timestamp and dependencies
unfoldable pub proposal_at : Unread → Read (BodyParts × Settled)
proposal_at u = do
  body ← body_at u
  settled ← settled_at body.1
  Ok ((body.0, settled.0), settled.1)

-- ---- what the messages to a store have besides

unfoldable pub pre_accept_at : Envelope → Unread → Read Message
pre_accept_at e u = do
  body ← body_at u
  Ok (PreAccept e.from e.to e.id e.ballot body.0, body.1)

unfoldable pub accept_at : Envelope → Unread → Read Message
accept_at e u = do
  proposal ← proposal_at u
  Ok (Accept e.from e.to e.id e.ballot proposal.0.0 proposal.0.1.t proposal.0.1.deps, proposal.1)

unfoldable pub commit_at : Envelope → Unread → Read Message
commit_at e u = do
  proposal ← proposal_at u
  Ok (Commit e.from e.to e.id e.ballot proposal.0.0 proposal.0.1.t proposal.0.1.deps, proposal.1)

unfoldable pub stable_at : Envelope → Unread → Read Message
stable_at e u = do
  proposal ← proposal_at u
  Ok (Stable e.from e.to e.id e.ballot proposal.0.0 proposal.0.1.t proposal.0.1.deps, proposal.1)

unfoldable pub apply_at : Envelope → Unread → Read Message
apply_at e u = do
  proposal ← proposal_at u
  outcome ← outcome_at proposal.1
  Ok (Apply e.from e.to e.id e.ballot proposal.0.0 proposal.0.1.t proposal.0.1.deps outcome.0, outcome.1)

unfoldable pub recover_at : Envelope → Unread → Read Message
recover_at e u = do
  body ← body_at u
  Ok (Recover e.from e.to e.id e.ballot body.0, body.1)

abbrev pub request_at : ℕ → Envelope → Unread → Read Message
request_at number e u =
    if number == 1 then pre_accept_at e u
    else (if number == 3 then accept_at e u
    else (if number == 5 then commit_at e u
    else (if number == 7 then stable_at e u
    else (if number == 9 then apply_at e u
    else recover_at e u))))

-- ---- what the messages to a node have besides

unfoldable pub pre_accept_ok_at : Envelope → Unread → Read Message
pre_accept_ok_at e u = do
  dated ← settled_at u
  Ok (PreAcceptOk e.from e.to e.id e.ballot dated.0.t dated.0.deps, dated.1)

unfoldable pub accept_ok_at : Envelope → Unread → Read Message
accept_ok_at e u = do
  deps ← deps_at u
  Ok (AcceptOk e.from e.to e.id e.ballot deps.0, deps.1)

unfoldable pub read_ok_at : Envelope → Unread → Read Message
read_ok_at e u = do
  answer ← answer_at u
  Ok (ReadOk e.from e.to e.id e.ballot answer.0, answer.1)

unfoldable pub recover_ok_at : Envelope → Unread → Read Message
recover_ok_at e u = do
  view ← view_at u
  Ok (RecoverOk e.from e.to e.id e.ballot view.0, view.1)

unfoldable pub nack_at : Envelope → Unread → Read Message
nack_at e u = do
  promised ← ballot_at u
  Ok (Nack e.from e.to e.id e.ballot promised.0, promised.1)

unfoldable pub decided_at : Envelope → Unread → Read Message
decided_at e u = do
  dated ← settled_at u
  Ok (Decided e.from e.to e.id e.ballot dated.0.t dated.0.deps, dated.1)

unfoldable pub inform_at : Envelope → Unread → Read Message
inform_at e u = do
  outcome ← outcome_at u
  Ok (Inform e.from e.to e.id e.ballot outcome.0, outcome.1)

abbrev pub reply_at : ℕ → Envelope → Unread → Read Message
reply_at number e u =
    if number == 2 then pre_accept_ok_at e u
    else (if number == 4 then accept_ok_at e u
    else (if number == 6 then Ok (CommitOk e.from e.to e.id e.ballot, u)
    else (if number == 8 then read_ok_at e u
    else (if number == 11 then recover_ok_at e u
    else (if number == 12 then nack_at e u
    else (if number == 13 then decided_at e u
    else inform_at e u))))))

-- ---- messages

-- the number is that of a message to a store
abbrev pub is_request : ℕ → Bool
is_request number = number == 1 || number == 3 || number == 5 || number == 7 || number == 9 || number == 10

abbrev pub content_at : ℕ → Envelope → Unread → Read Message
content_at number e u = if is_request number then request_at number e u else reply_at number e u

unfoldable pub message_at : Unread → Read Message
message_at u = do
  number ← between_at 1 14 u
  envelope ← envelope_at number.1
  content_at number.0 envelope.0 envelope.1

-- all of the bytes
unfoldable pub message_of : List ℕ → Result Message WireError
message_of bytes = do
  m ← message_at (record { bytes = bytes; place = 0 })
  _ ← end_at m.1
  Ok m.0

-- what a call answered is this, unless memory ran out
abbrev pub Gives : {A : Type 0} → Result A CodeError → Result A WireError → Type 0
Gives (Ok x) answer = answer ≡ Ok x
Gives (Err (Wire e)) answer = answer ≡ Err e
Gives (Err OutOfMemory) answer = Unit {0}
