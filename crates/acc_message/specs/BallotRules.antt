-- Ballot rules: what a store has promised, accepted and committed, and what is stable at it.
use Rattle.std.specs.Prelude.{Bool, true, false, cond, ◌&&◌, List, [], ◌∷◌, Option, None, Some, if◌then◌else◌}
use Rattle.std.specs.List.{list_any}
use Rattle.acc_stamp.specs.declared.stamps.TxnId.{TxnId}
use Rattle.acc_stamp.specs.declared.stamps.Ballot.{Ballot}
use Rattle.acc_stamp.specs.Stamp.{ballot_lt, id_eq, zero_ballot}
use Rattle.acc_deps.specs.declared.records.Accepted.{Accepted}
use Rattle.acc_deps.specs.declared.records.Settled.{Settled}
use Rattle.acc_txn.specs.declared.outcome.Outcome.{Outcome}
use Rattle.acc_message.specs.declared.message.Message.{Message}
use Rattle.acc_message.specs.declared.message.Message.TheVariants.{PreAccept, PreAcceptOk, Accept, AcceptOk, Commit, CommitOk, Stable, ReadOk, Apply, Recover, RecoverOk, Nack, Decided, Inform}
use Rattle.acc_message.specs.Fields.{ballot_of}
use Rattle.acc_base.specs.Faults.{or_else}
use Rattle.acc_message.specs.Taken.{Taken}

abbrev pub greater_ballot : Ballot → Ballot → Ballot
greater_ballot a b = if ballot_lt a b then b else a

abbrev pub is_accept_ok : Message → Bool
is_accept_ok (AcceptOk from to id ballot deps) = true
is_accept_ok _ = false

abbrev pub is_commit_ok : Message → Bool
is_commit_ok (CommitOk from to id ballot) = true
is_commit_ok _ = false

abbrev pub is_recover_ok : Message → Bool
is_recover_ok (RecoverOk from to id ballot view) = true
is_recover_ok _ = false

-- ---- promises

-- a message about x with a ballot to promise is granted: RecoverOk, AcceptOk or CommitOk answers it
abbrev pub grants : TxnId → Message → List Message → Bool
grants x (Accept from to id ballot body t deps) sent = id_eq id x && list_any is_accept_ok sent
grants x (Commit from to id ballot body t deps) sent = id_eq id x && list_any is_commit_ok sent
grants x (Recover from to id ballot body) sent = id_eq id x && list_any is_recover_ok sent
grants x m sent = false

-- its ballot is granted
abbrev pub granted_by : TxnId → Message → List Message → Ballot
granted_by x m sent = cond (grants x m sent) (ballot_of m) zero_ballot

-- the promise for x is the greatest ballot that was granted, and zero where none was
abbrev pub promise_of : List Taken → TxnId → Ballot
promise_of [] x = zero_ballot
promise_of (step ∷ past) x = greater_ballot (promise_of past x) (granted_by x step.message step.sent)

-- ---- records

-- what the latest granted Accept says
abbrev pub accepted_by : TxnId → Message → List Message → Option Accepted
accepted_by x (Accept from to id ballot body t deps) sent =
    cond (id_eq id x && list_any is_accept_ok sent) (Some (record { ballot = ballot; t = t; deps = deps })) None
accepted_by x m sent = None

abbrev pub accepted_of : List Taken → TxnId → Option Accepted
accepted_of [] x = None
accepted_of (step ∷ past) x = or_else (accepted_by x step.message step.sent) (accepted_of past x)

-- what the latest granted Commit says
abbrev pub committed_by : TxnId → Message → List Message → Option Accepted
committed_by x (Commit from to id ballot body t deps) sent =
    cond (id_eq id x && list_any is_commit_ok sent) (Some (record { ballot = ballot; t = t; deps = deps })) None
committed_by x m sent = None

abbrev pub committed_of : List Taken → TxnId → Option Accepted
committed_of [] x = None
committed_of (step ∷ past) x = or_else (committed_by x step.message step.sent) (committed_of past x)

-- the stable record: what the first Stable or Apply about x says
abbrev pub settled_in : TxnId → Message → Option Settled
settled_in x (Stable from to id ballot body t deps) = cond (id_eq id x) (Some (record { t = t; deps = deps })) None
settled_in x (Apply from to id ballot body t deps outcome) = cond (id_eq id x) (Some (record { t = t; deps = deps })) None
settled_in x _ = None

abbrev pub stable_of : List Taken → TxnId → Option Settled
stable_of [] x = None
stable_of (step ∷ past) x = or_else (stable_of past x) (settled_in x step.message)

-- the kept outcome: the one that the first Apply about x brings
abbrev pub outcome_in : TxnId → Message → Option Outcome
outcome_in x (Apply from to id ballot body t deps outcome) = cond (id_eq id x) (Some outcome) None
outcome_in x _ = None

abbrev pub kept_outcome : List Taken → TxnId → Option Outcome
kept_outcome [] x = None
kept_outcome (step ∷ past) x = or_else (kept_outcome past x) (outcome_in x step.message)
