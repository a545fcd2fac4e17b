-- An attempt in the words of what its node sent and took: what it sent last asks for its phase, and of the answers that were taken since
-- each store's first counts.
use Rattle.std.specs.Prelude.{Bool, not, cond, ◌&&◌, List, [], ◌∷◌, ◌++◌, Option, None, Some}
use Rattle.std.specs.List.{list_any}
use Rattle.acc_base.specs.Faults.{or_else}
use Rattle.acc_stamp.specs.declared.stamps.TxnId.{TxnId}
use Rattle.acc_stamp.specs.declared.stamps.Ballot.{Ballot}
use Rattle.acc_stamp.specs.Stamp.{ballot_eq}
use Rattle.acc_topology.specs.Layout.{Layout}
use Rattle.acc_txn.specs.declared.parts.BodyParts.{BodyParts}
use Rattle.acc_message.specs.declared.message.Message.{Message}
use Rattle.acc_message.specs.declared.message.Message.TheVariants.{PreAccept, PreAcceptOk, Accept, AcceptOk, Commit, CommitOk, Stable, ReadOk, Apply, Recover, RecoverOk, Nack, Decided, Inform}
use Rattle.acc_message.specs.Fields.{from_of, ballot_of, is_about}
use Rattle.acc_message.specs.Shares.{is_store_of}
use Rattle.acc_message.specs.Attempts.{Phase, Voting, Recovering, Accepting, Committing, Executing, fits, same_seat}
use Rattle.acc_message.specs.NodeRules.{Act, Begins, Recovers, Slows, Takes, Restarts, Deed}

-- ---- what was sent last

-- the phase whose answers the message asks for
abbrev pub phase_asked : Message → Option Phase
phase_asked (PreAccept from to id ballot body) = Some Voting
phase_asked (PreAcceptOk from to id ballot vote deps) = None
phase_asked (Accept from to id ballot body t deps) = Some (Accepting (record { t = t; deps = deps }))
phase_asked (AcceptOk from to id ballot deps) = None
phase_asked (Commit from to id ballot body t deps) = Some (Committing (record { t = t; deps = deps }))
phase_asked (CommitOk from to id ballot) = None
phase_asked (Stable from to id ballot body t deps) = Some (Executing (record { t = t; deps = deps }))
phase_asked (ReadOk from to id ballot answer) = None
phase_asked (Apply from to id ballot body t deps outcome) = None
phase_asked (Recover from to id ballot body) = Some Recovering
phase_asked (RecoverOk from to id ballot view) = None
phase_asked (Nack from to id ballot promised) = None
phase_asked (Decided from to id ballot t deps) = None
phase_asked (Inform from to id ballot outcome) = None

-- the phase that some of these messages ask for, for x
abbrev pub asked_in : TxnId → List Message → Option Phase
asked_in x [] = None
asked_in x (m ∷ messages) = or_else (cond (is_about x m) (phase_asked m) None) (asked_in x messages)

-- the phase that what was sent last asks for, for x
abbrev pub last_asked : TxnId → List Deed → Option Phase
last_asked x [] = None
last_asked x (deed ∷ past) = or_else (asked_in x deed.emitted.out) (last_asked x past)

-- ---- what was taken since

abbrev pub taken_in : Act → List Message
taken_in (Begins txn body) = []
taken_in (Recovers y body) = []
taken_in (Slows y) = []
taken_in (Takes m) = m ∷ []
taken_in Restarts = []

abbrev pub taken_unless : Option Phase → Act → List Message → List Message
taken_unless (Some phase) act earlier = []
taken_unless None act earlier = taken_in act ++ earlier

-- the messages that were taken since the step that asked last, the newest first
abbrev pub taken_since : TxnId → List Deed → List Message
taken_since x [] = []
taken_since x (deed ∷ past) = taken_unless (asked_in x deed.emitted.out) deed.act (taken_since x past)

-- ---- the answers that count

-- the message answers the attempt at x with this ballot, body and phase: it is of the phase's kind and of this ballot, and from a store of x
abbrev pub is_answer_to : Layout → TxnId → Ballot → BodyParts → Phase → Message → Bool
is_answer_to layout x ballot body phase m =
    is_about x m && (ballot_eq (ballot_of m) ballot && (fits phase m && is_store_of layout body (from_of m)))

-- some of the messages is an answer that stands for the same store, or for the same shard where the attempt reads
abbrev pub has_answer_of : Layout → TxnId → Ballot → BodyParts → Phase → List Message → Message → Bool
has_answer_of layout x ballot body phase messages m =
    list_any (λ other. is_answer_to layout x ballot body phase other && same_seat phase (from_of other) (from_of m)) messages

-- of the answers among these messages, which stand with the newest first, those with no earlier one of the same store
abbrev pub first_answers : Layout → TxnId → Ballot → BodyParts → Phase → List Message → List Message
first_answers layout x ballot body phase [] = []
first_answers layout x ballot body phase (m ∷ earlier) =
    let others : List Message = first_answers layout x ballot body phase earlier in
    cond (is_answer_to layout x ballot body phase m && not (has_answer_of layout x ballot body phase earlier m)) (m ∷ others) others
