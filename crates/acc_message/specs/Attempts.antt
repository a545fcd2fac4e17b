-- Attempts at a transaction: their phases, the answers that count, and the counts of them.
use Rattle.std.specs.Prelude.{ℕ, Bool, true, false, not, cond, ◌==◌, ◌&&◌, ◌||◌, List, [], ◌∷◌, Option, None, Some, map}
use Rattle.std.specs.List.{list_any, list_all}
use Rattle.acc_stamp.specs.declared.stamps.Stamp.{Stamp}
use Rattle.acc_stamp.specs.declared.stamps.TxnId.{TxnId}
use Rattle.acc_stamp.specs.declared.stamps.Ballot.{Ballot}
use Rattle.acc_stamp.specs.declared.actors.Actor.{Actor}
use Rattle.acc_stamp.specs.Actor.{shard_of}
use Rattle.acc_stamp.specs.Stamp.{stamp_eq, zero_stamp}
use Rattle.acc_topology.specs.Layout.{Layout}
use Rattle.acc_topology.specs.Keys.{shard_of_key}
use Rattle.acc_deps.specs.declared.shards.ShardDeps.{ShardDeps}
use Rattle.acc_deps.specs.declared.records.Settled.{Settled}
use Rattle.acc_quorum.specs.Answers.{Answer, greatest, union_of as all_deps, majority_everywhere as majority_of, fast_everywhere as fast_of, fast_lost_somewhere as fast_lost_of, may_be_fast_everywhere as may_be_fast_of}
use Rattle.acc_value.specs.declared.key.Key.{Key}
use Rattle.acc_value.specs.declared.value.Value.{Value}
use Rattle.acc_value.specs.Cells.{cell_of}
use Rattle.acc_txn.specs.declared.parts.BodyParts.{BodyParts}
use Rattle.acc_txn.specs.declared.outcome.Outcome.{Outcome}
use Rattle.acc_txn.specs.Meaning.{outcome_of}
use Rattle.acc_message.specs.declared.answer.ReadAnswer.{ReadAnswer}
use Rattle.acc_message.specs.declared.answer.ReadAnswer.TheVariants.{Values, Known}
use Rattle.acc_message.specs.declared.message.Message.{Message}
use Rattle.acc_message.specs.declared.message.Message.TheVariants.{PreAccept, PreAcceptOk, Accept, AcceptOk, Commit, CommitOk, Stable, ReadOk, Apply, Recover, RecoverOk, Nack, Decided, Inform}
use Rattle.acc_message.specs.Fields.{from_of, is_about}
use Rattle.acc_base.specs.Faults.{or_else}
use Rattle.acc_message.specs.Items.{same_actor}
use Rattle.acc_message.specs.Shares.{shards_used, is_store_of}
use Rattle.acc_message.specs.BallotRules.{is_accept_ok, is_commit_ok, is_recover_ok}

-- How far an attempt has come: it has asked for votes, asked for evidence, proposed, committed, or decided and now reads. The
-- last three have the timestamp and the dependencies in question.
pub data Phase : Type 0 where
  Voting : Phase
  Recovering : Phase
  Accepting : Settled → Phase
  Committing : Settled → Phase
  Executing : Settled → Phase

-- an attempt, with the answers of its phase that count, the newest first
pub record Attempt : Type 0 where
  pub ballot : Ballot
  pub body : BodyParts
  pub phase : Phase
  pub answers : List Message

-- ---- the answers that count

abbrev pub is_preaccept_ok : Message → Bool
is_preaccept_ok (PreAcceptOk from to id ballot vote deps) = true
is_preaccept_ok _ = false

-- an answer that votes for x
abbrev pub votes_for : TxnId → Message → Bool
votes_for x m = is_preaccept_ok m && is_about x m

abbrev pub is_read_ok : Message → Bool
is_read_ok (ReadOk from to id ballot answer) = true
is_read_ok _ = false

abbrev pub fits : Phase → Message → Bool
fits Voting m = is_preaccept_ok m
fits Recovering m = is_recover_ok m
fits (Accepting s) m = is_accept_ok m
fits (Committing s) m = is_commit_ok m
fits (Executing s) m = is_read_ok m

-- of the answers of one store the first counts, and of the ReadOks of one shard
abbrev pub same_seat : Phase → Actor → Actor → Bool
same_seat Voting a b = same_actor a b
same_seat Recovering a b = same_actor a b
same_seat (Accepting s) a b = same_actor a b
same_seat (Committing s) a b = same_actor a b
same_seat (Executing s) a b = shard_of a == shard_of b

abbrev pub counts : Layout → Attempt → Message → Bool
counts layout a m =
    fits a.phase m && is_store_of layout a.body (from_of m)
    && not (list_any (λ earlier. same_seat a.phase (from_of earlier) (from_of m)) a.answers)

-- ---- what the answers say

abbrev pub vote_in_answer : Message → Stamp
vote_in_answer (PreAcceptOk from to id ballot vote deps) = vote
vote_in_answer (RecoverOk from to id ballot view) = view.vote
vote_in_answer _ = zero_stamp

abbrev pub deps_in_answer : Message → List ShardDeps
deps_in_answer (PreAcceptOk from to id ballot vote deps) = deps
deps_in_answer (AcceptOk from to id ballot deps) = deps
deps_in_answer (RecoverOk from to id ballot view) = view.vote_deps
deps_in_answer _ = []

-- as quorums count it: whether it votes for the timestamp of x, for which one, and with which dependencies
abbrev pub plain : TxnId → Message → Answer
plain x m = record { store = from_of m; unchanged = stamp_eq (vote_in_answer m) x.0; t = vote_in_answer m; deps = deps_in_answer m }

abbrev pub plainly : TxnId → List Message → List Answer
plainly x answers = map (plain x) answers

abbrev pub greatest_vote : TxnId → List Message → Stamp
greatest_vote x answers = greatest (plainly x answers)

abbrev pub union_of : TxnId → List Message → List ShardDeps
union_of x answers = all_deps (plainly x answers)

-- ---- quorums, in the shards of a body

abbrev pub majority_everywhere : Layout → TxnId → BodyParts → List Message → Bool
majority_everywhere layout x body answers = majority_of layout (shards_used layout body) (plainly x answers)

abbrev pub fast_everywhere : Layout → TxnId → BodyParts → List Message → Bool
fast_everywhere layout x body answers = fast_of layout (shards_used layout body) (plainly x answers)

abbrev pub fast_lost_somewhere : Layout → TxnId → BodyParts → List Message → Bool
fast_lost_somewhere layout x body answers = fast_lost_of layout (shards_used layout body) (plainly x answers)

abbrev pub may_be_fast_everywhere : Layout → TxnId → BodyParts → List Message → Bool
may_be_fast_everywhere layout x body answers = may_be_fast_of layout (shards_used layout body) (plainly x answers)

-- ---- reads

abbrev pub known_in_read : ReadAnswer → Option Outcome
known_in_read (Values cells) = None
known_in_read (Known outcome) = Some outcome

abbrev pub known_in : Message → Option Outcome
known_in (ReadOk from to id ballot answer) = known_in_read answer
known_in _ = None

abbrev pub known_among : List Message → Option Outcome
known_among [] = None
known_among (m ∷ answers) = or_else (known_in m) (known_among answers)

abbrev pub cell_in_read : Key → ReadAnswer → Option Value
cell_in_read key (Values cells) = cell_of cells key
cell_in_read key (Known outcome) = None

abbrev pub cell_in : Key → Message → Option Value
cell_in key (ReadOk from to id ballot answer) = cell_in_read key answer
cell_in key _ = None

-- a key is looked up in the answer of its own shard, and is null where this one lacks it
abbrev pub cell_read : Layout → List Message → Key → Option Value
cell_read layout [] key = None
cell_read layout (m ∷ answers) key =
    let others : Option Value = cell_read layout answers key in
    cond (shard_of (from_of m) == shard_of_key layout key) (cell_in key m) others

abbrev pub has_read : List Message → ℕ → Bool
has_read answers shard = list_any (λ m. shard_of (from_of m) == shard) answers

abbrev pub read_everywhere : Layout → BodyParts → List Message → Bool
read_everywhere layout body answers = list_all (has_read answers) (shards_used layout body)

abbrev pub outcome_if : Bool → Layout → BodyParts → List Message → Option Outcome
outcome_if true layout body answers = Some (outcome_of body (cell_read layout answers))
outcome_if false layout body answers = None

-- the outcome: one that is known already, or the body's meaning on the cells once each shard has answered
abbrev pub outcome_from : Layout → BodyParts → List Message → Option Outcome
outcome_from layout body answers =
    or_else (known_among answers) (outcome_if (read_everywhere layout body answers) layout body answers)
