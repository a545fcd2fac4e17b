-- The fields of a message.
use Rattle.std.specs.Prelude.{ℕ, Bool, max, Option, None, Some}
use Rattle.acc_stamp.specs.declared.stamps.TxnId.{TxnId}
use Rattle.acc_stamp.specs.declared.stamps.Ballot.{Ballot}
use Rattle.acc_stamp.specs.declared.actors.Actor.{Actor}
use Rattle.acc_stamp.specs.Stamp.{id_eq}
use Rattle.acc_deps.specs.declared.records.Accepted.{Accepted}
use Rattle.acc_deps.specs.declared.records.Settled.{Settled}
use Rattle.acc_deps.specs.declared.records.View.{View}
use Rattle.acc_message.specs.declared.envelope.Envelope.{Envelope}
use Rattle.acc_message.specs.declared.message.Message.{Message}
use Rattle.acc_message.specs.declared.message.Message.TheVariants.{PreAccept, PreAcceptOk, Accept, AcceptOk, Commit, CommitOk, Stable, ReadOk, Apply, Recover, RecoverOk, Nack, Decided, Inform}

-- the sender
abbrev pub from_of : Message → Actor
from_of (PreAccept from to id ballot body) = from
from_of (PreAcceptOk from to id ballot vote deps) = from
from_of (Accept from to id ballot body t deps) = from
from_of (AcceptOk from to id ballot deps) = from
from_of (Commit from to id ballot body t deps) = from
from_of (CommitOk from to id ballot) = from
from_of (Stable from to id ballot body t deps) = from
from_of (ReadOk from to id ballot answer) = from
from_of (Apply from to id ballot body t deps outcome) = from
from_of (Recover from to id ballot body) = from
from_of (RecoverOk from to id ballot view) = from
from_of (Nack from to id ballot promised) = from
from_of (Decided from to id ballot t deps) = from
from_of (Inform from to id ballot outcome) = from

-- the actor that it goes to
abbrev pub to_of : Message → Actor
to_of (PreAccept from to id ballot body) = to
to_of (PreAcceptOk from to id ballot vote deps) = to
to_of (Accept from to id ballot body t deps) = to
to_of (AcceptOk from to id ballot deps) = to
to_of (Commit from to id ballot body t deps) = to
to_of (CommitOk from to id ballot) = to
to_of (Stable from to id ballot body t deps) = to
to_of (ReadOk from to id ballot answer) = to
to_of (Apply from to id ballot body t deps outcome) = to
to_of (Recover from to id ballot body) = to
to_of (RecoverOk from to id ballot view) = to
to_of (Nack from to id ballot promised) = to
to_of (Decided from to id ballot t deps) = to
to_of (Inform from to id ballot outcome) = to

-- the transaction that it is about
abbrev pub id_of : Message → TxnId
id_of (PreAccept from to id ballot body) = id
id_of (PreAcceptOk from to id ballot vote deps) = id
id_of (Accept from to id ballot body t deps) = id
id_of (AcceptOk from to id ballot deps) = id
id_of (Commit from to id ballot body t deps) = id
id_of (CommitOk from to id ballot) = id
id_of (Stable from to id ballot body t deps) = id
id_of (ReadOk from to id ballot answer) = id
id_of (Apply from to id ballot body t deps outcome) = id
id_of (Recover from to id ballot body) = id
id_of (RecoverOk from to id ballot view) = id
id_of (Nack from to id ballot promised) = id
id_of (Decided from to id ballot t deps) = id
id_of (Inform from to id ballot outcome) = id

-- the ballot of the attempt that it belongs to
abbrev pub ballot_of : Message → Ballot
ballot_of (PreAccept from to id ballot body) = ballot
ballot_of (PreAcceptOk from to id ballot vote deps) = ballot
ballot_of (Accept from to id ballot body t deps) = ballot
ballot_of (AcceptOk from to id ballot deps) = ballot
ballot_of (Commit from to id ballot body t deps) = ballot
ballot_of (CommitOk from to id ballot) = ballot
ballot_of (Stable from to id ballot body t deps) = ballot
ballot_of (ReadOk from to id ballot answer) = ballot
ballot_of (Apply from to id ballot body t deps outcome) = ballot
ballot_of (Recover from to id ballot body) = ballot
ballot_of (RecoverOk from to id ballot view) = ballot
ballot_of (Nack from to id ballot promised) = ballot
ballot_of (Decided from to id ballot t deps) = ballot
ballot_of (Inform from to id ballot outcome) = ballot

abbrev pub envelope_of : Message → Envelope
envelope_of m = record { from = from_of m; to = to_of m; id = id_of m; ballot = ballot_of m }

abbrev pub is_about : TxnId → Message → Bool
is_about x m = id_eq (id_of m) x

-- ---- the greatest h that a message names outside of dependencies and waits

abbrev pub top_of_accepted : Option Accepted → ℕ
top_of_accepted None = 0
top_of_accepted (Some a) = max a.ballot.0.h a.t.h

abbrev pub top_of_settled : Option Settled → ℕ
top_of_settled None = 0
top_of_settled (Some s) = s.t.h

abbrev pub top_of_view : View → ℕ
top_of_view view =
    max view.vote.h (max (top_of_accepted view.accepted) (max (top_of_accepted view.committed) (top_of_settled view.stable)))

-- the greatest h of the fields after the ballot
abbrev pub top_of_own : Message → ℕ
top_of_own (PreAccept from to id ballot body) = 0
top_of_own (PreAcceptOk from to id ballot vote deps) = vote.h
top_of_own (Accept from to id ballot body t deps) = t.h
top_of_own (AcceptOk from to id ballot deps) = 0
top_of_own (Commit from to id ballot body t deps) = t.h
top_of_own (CommitOk from to id ballot) = 0
top_of_own (Stable from to id ballot body t deps) = t.h
top_of_own (ReadOk from to id ballot answer) = 0
top_of_own (Apply from to id ballot body t deps outcome) = t.h
top_of_own (Recover from to id ballot body) = 0
top_of_own (RecoverOk from to id ballot view) = top_of_view view
top_of_own (Nack from to id ballot promised) = promised.0.h
top_of_own (Decided from to id ballot t deps) = t.h
top_of_own (Inform from to id ballot outcome) = 0

abbrev pub top_of : Message → ℕ
top_of m = max (max (id_of m).0.h (ballot_of m).0.h) (top_of_own m)
