-- Recovery decision: how a recovery goes on once a majority of every shard has sent RecoverOk. It depends on these answers
-- alone.
use Rattle.std.specs.Prelude.{not, cond, ◌||◌, List, [], ◌∷◌, Option, None, Some}
use Rattle.std.specs.List.{list_any, filter_map}
use Rattle.acc_stamp.specs.declared.stamps.TxnId.{TxnId}
use Rattle.acc_topology.specs.Layout.{Layout}
use Rattle.acc_deps.specs.declared.records.View.{View}
use Rattle.acc_deps.specs.declared.records.Choice.{Choice}
use Rattle.acc_deps.specs.declared.records.Choice.TheVariants.{Accept as GoAccept, Commit as GoCommit, Stable as GoStable}
use Rattle.acc_deps.specs.Records.{Stably, stably_all, least_stably, Claim, claims_of, highest_claim, choice_of_claim, waits_of}
use Rattle.acc_txn.specs.declared.parts.BodyParts.{BodyParts}
use Rattle.acc_message.specs.declared.message.Message.{Message}
use Rattle.acc_message.specs.declared.message.Message.TheVariants.{PreAccept, PreAcceptOk, Accept, AcceptOk, Commit, CommitOk, Stable, ReadOk, Apply, Recover, RecoverOk, Nack, Decided, Inform}
use Rattle.acc_message.specs.Attempts.{greatest_vote, union_of, may_be_fast_everywhere}

-- go on with a choice, or end, blocked by transactions
pub data Ruling : Type 0 where
  Go : Choice → Ruling
  Blocks : List TxnId → Ruling

abbrev pub view_in : Message → Option View
view_in (RecoverOk from to id ballot view) = Some view
view_in _ = None

abbrev pub views_in : List Message → List View
views_in answers = filter_map view_in answers

-- ---- the decision

-- where there is something to wait for the recovery is blocked, else the transaction's own timestamp is proposed
abbrev pub unless_blocked : TxnId → List Message → List TxnId → Ruling
unless_blocked x answers [] = Go (GoAccept (record { t = x.0; deps = union_of x answers }))
unless_blocked x answers (y ∷ ids) = Blocks (y ∷ ids)

-- where no store has a record: where x can't have been decided at its own timestamp, the greatest vote is proposed
abbrev pub without_records : Layout → TxnId → BodyParts → List Message → Ruling
without_records layout x body answers =
    cond (not (may_be_fast_everywhere layout x body answers) || list_any (λ (v : View). v.superseded) (views_in answers))
    (Go (GoAccept (record { t = greatest_vote x answers; deps = union_of x answers })))
    (unless_blocked x answers (waits_of (views_in answers)))

abbrev pub by_claim : Option Claim → Ruling → Ruling
by_claim None other = other
by_claim (Some c) other = Go (choice_of_claim c)

abbrev pub by_stable : Option Stably → Ruling → Ruling
by_stable None other = other
by_stable (Some s) other = Go (GoStable s.settled)

abbrev pub recovery_decision : Layout → TxnId → BodyParts → List Message → Ruling
recovery_decision layout x body answers =
    by_stable (least_stably (stably_all (views_in answers)))
    (by_claim (highest_claim (claims_of (views_in answers))) (without_records layout x body answers))
