-- What a shelf reveals of a transaction, by the records that it has.
use Rattle.std.specs.Prelude.{ℕ, max, Bool, true, false, cond, ◌&&◌, ◌||◌, List, Option, None, Some, is_none, filter}
use Rattle.std.specs.List.{list_any}
use Rattle.acc_stamp.specs.declared.stamps.Stamp.{Stamp}
use Rattle.acc_stamp.specs.declared.stamps.TxnId.{TxnId}
use Rattle.acc_stamp.specs.declared.stamps.Ballot.{Ballot}
use Rattle.acc_stamp.specs.Actor.{shard_of, home_of}
use Rattle.acc_stamp.specs.Stamp.{ballot_lt, zero_ballot}
use Rattle.acc_topology.specs.Layout.{Layout}
use Rattle.acc_topology.specs.Keys.{share_of}
use Rattle.acc_txn.specs.declared.parts.BodyParts.{BodyParts}
use Rattle.acc_txn.specs.Uses.{footprint_of}
use Rattle.acc_deps.specs.declared.records.Accepted.{Accepted}
use Rattle.acc_deps.specs.declared.records.Settled.{Settled}
use Rattle.acc_deps.specs.declared.records.View.{View}
use Rattle.acc_value.specs.declared.key.Key.{Key}
use Rattle.acc_index.specs.Noted.{rival_ids}
use Rattle.acc_message.specs.declared.message.Message.{Message}
use Rattle.acc_message.specs.declared.message.Message.TheVariants.{Recover, RecoverOk, Nack}
use Rattle.acc_message.specs.VoteRule.{drawn_as}
use Rattle.acc_message.specs.Evidence.{accepted_without, stable_without, accepted_above}
use Rattle.acc_record.specs.declared.change.Change.{Change}
use Rattle.acc_record.specs.declared.change.Change.TheVariants.{Stays, Grants}
use Rattle.acc_record.specs.declared.record.Record.{Record}
use Rattle.acc_record.specs.declared.shelf.Shelf.{Shelf}
use Rattle.acc_record.specs.declared.vote.Vote.{Vote}
use Rattle.acc_record.specs.Shelf.{record_at}
use Rattle.acc_record.specs.Learning.{vote_at, body_of}

-- ---- the fields of a record, where there is one

abbrev pub promised_in : Option Record → Ballot
promised_in None = zero_ballot
promised_in (Some r) = r.promised

abbrev pub accepted_in : Option Record → Option Accepted
accepted_in None = None
accepted_in (Some r) = r.accepted

abbrev pub committed_in : Option Record → Option Accepted
committed_in None = None
committed_in (Some r) = r.committed

abbrev pub stable_in : Option Record → Option Settled
stable_in None = None
stable_in (Some r) = r.stable

-- ---- the conflicting transactions

-- y, with this record, rules out that x was decided at its own timestamp
abbrev pub rules_out : ℕ → TxnId → TxnId → Option Record → Bool
rules_out shard x y o = accepted_without shard x y (accepted_in o) || stable_without shard x (stable_in o)

-- y, with this record, keeps a recovery of x waiting
abbrev pub keeps_waiting : TxnId → TxnId → Option Record → Bool
keeps_waiting x y o = accepted_above x y (accepted_in o) && is_none (stable_in o)

abbrev pub superseded_at : Shelf → TxnId → List TxnId → Bool
superseded_at shelf x rivals = list_any (λ y. rules_out (shard_of shelf.actor) x y (record_at shelf.records y)) rivals

abbrev pub awaited_at : Shelf → TxnId → List TxnId → List TxnId
awaited_at shelf x rivals = filter (λ y. keeps_waiting x y (record_at shelf.records y)) rivals

-- ---- the view

abbrev pub view_with : Shelf → TxnId → List TxnId → Vote → View
view_with shelf x rivals vote =
    record {
      store = shelf.actor;
      vote = vote.stamp;
      vote_deps = vote.deps;
      accepted = accepted_in (record_at shelf.records x);
      committed = committed_in (record_at shelf.records x);
      stable = stable_in (record_at shelf.records x);
      superseded = superseded_at shelf x rivals;
      waits = awaited_at shelf x rivals;
    }

-- `top` is the greatest h of the message that asks
abbrev pub view_at : Shelf → TxnId → List (Key × Bool) → ℕ → View
view_at shelf x share top = view_with shelf x (rival_ids shelf.index x share) (vote_at shelf x share top)

-- ---- the answer

-- the promise allows this ballot
abbrev pub is_allowed : Shelf → TxnId → Ballot → Bool
is_allowed shelf x b = ballot_lt (promised_in (record_at shelf.records x)) b

abbrev pub revealed : Shelf → TxnId → Ballot → View → Message
revealed shelf x b view = RecoverOk shelf.actor (home_of x b) x b view

abbrev pub refused : Shelf → TxnId → Ballot → Message
refused shelf x b = Nack shelf.actor (home_of x b) x b (promised_in (record_at shelf.records x))

abbrev pub answer_at : Shelf → TxnId → Ballot → List (Key × Bool) → ℕ → Message
answer_at shelf x b share top = cond (is_allowed shelf x b) (revealed shelf x b (view_at shelf x share top)) (refused shelf x b)

-- the greatest h of the message, and of its answer's vote where the store drew it
abbrev pub top_with : Shelf → ℕ → Stamp → ℕ
top_with shelf top vote = max top (drawn_as shelf.actor.0 vote)

-- ---- the step

abbrev pub is_recover : Message → Bool
is_recover (Recover from to id ballot body) = true
is_recover _ = false

abbrev pub share_at : Layout → Shelf → TxnId → BodyParts → List (Key × Bool)
share_at layout shelf x body = share_of layout (footprint_of (body_of (record_at shelf.records x) body)) (shard_of shelf.actor)

-- where the ballot is allowed, the vote is noted and kept and the ballot promised; where it isn't, the record stays
abbrev pub stamp_if : Bool → View → Option Stamp
stamp_if true view = Some view.vote
stamp_if false view = None

abbrev pub top_if : Bool → Shelf → ℕ → View → ℕ
top_if true shelf top view = top_with shelf top view.vote
top_if false shelf top view = top

abbrev pub change_if : Bool → Ballot → View → Change
change_if true b view = Grants b (record { stamp = view.vote; deps = view.vote_deps })
change_if false b view = Stays
