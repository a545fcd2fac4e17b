-- When a shelf stands for the history of a store: each part of it is what the rules give from this history.
use Rattle.std.specs.Prelude.{◌≡◌, ℕ, Bool, List, [], ◌∷◌, Option, None, Some, is_some, IsTrue, Contains}
use Rattle.std.specs.Option.{option_map}
use Rattle.acc_stamp.specs.declared.stamps.Stamp.{Stamp}
use Rattle.acc_stamp.specs.declared.stamps.TxnId.{TxnId}
use Rattle.acc_stamp.specs.declared.actors.Actor.{Actor}
use Rattle.acc_stamp.specs.Actor.{shard_of}
use Rattle.acc_stamp.specs.Stamp.{stamp_le}
use Rattle.acc_topology.specs.Layout.{Layout}
use Rattle.acc_topology.specs.Keys.{share_of}
use Rattle.acc_deps.specs.declared.shards.ShardDeps.{ShardDeps}
use Rattle.acc_value.specs.declared.key.Key.{Key}
use Rattle.acc_txn.specs.declared.parts.BodyParts.{BodyParts}
use Rattle.acc_txn.specs.Uses.{footprint_of}
use Rattle.acc_index.specs.Noted.{Noted}
use Rattle.acc_message.specs.declared.message.Message.{Message}
use Rattle.acc_message.specs.Fields.{to_of}
use Rattle.acc_message.specs.Taken.{Taken, body_in, body_known}
use Rattle.acc_message.specs.VoteRule.{Vote, vote_of, stamps_of, greatest_h}
use Rattle.acc_message.specs.BallotRules.{promise_of, accepted_of, committed_of, stable_of, kept_outcome}
use Rattle.acc_message.specs.Opening.{is_opened, is_applied, cells_at}
use Rattle.acc_message.specs.StoreRules.{waiters_of, store_answer, replay}
use Rattle.acc_record.specs.declared.record.Record.{Record}
use Rattle.acc_record.specs.declared.shelf.Shelf.{Shelf}
use Rattle.acc_record.specs.Shelf.{record_at, cell_at}
use Rattle.acc_record.specs.Waits.{AreWaits}

-- ---- records

abbrev pub stamp_of_vote : Option Vote → Option Stamp
stamp_of_vote None = None
stamp_of_vote (Some v) = Some v.vote

abbrev pub deps_of_vote : Option Vote → List ShardDeps
deps_of_vote None = []
deps_of_vote (Some v) = v.deps

-- what the rules say of a transaction that has this body
abbrev pub record_with : ℕ → List Taken → TxnId → BodyParts → Record
record_with shard history x body =
    record {
      id = x;
      body = body;
      vote = stamp_of_vote (vote_of history x);
      vote_deps = deps_of_vote (vote_of history x);
      promised = promise_of history x;
      accepted = accepted_of history x;
      committed = committed_of history x;
      stable = stable_of history x;
      waiters = waiters_of shard history x;
      opened = is_opened shard history x;
      outcome = kept_outcome history x;
      applied = is_applied shard history x;
    }

-- the record of a transaction, where it is known
abbrev pub record_for : ℕ → List Taken → TxnId → Option Record
record_for shard history x = option_map (record_with shard history x) (body_known history x)

-- ---- the index

-- a stamp of a transaction with this body, with the keys of the shard that it uses
abbrev pub noted_as : Layout → ℕ → TxnId → BodyParts → Stamp → Noted
noted_as layout shard x body stamp = record { id = x; share = share_of layout (footprint_of body) shard; stamp = stamp }

-- it is a stamp of a known transaction
pub record IsStampOf (layout : Layout) (shard : ℕ) (history : List Taken) (n : Noted) : Type 0 where
  pub body : BodyParts
  pub known : body_known history n.id ≡ Some body
  pub stamp : Contains (stamps_of history n.id) n.stamp
  pub is : n ≡ noted_as layout shard n.id body n.stamp

-- the stamp, or a greater one of the same transaction, was noted
pub record IsCovered (noted : List Noted) (x : TxnId) (share : List (Key × Bool)) (stamp : Stamp) : Type 0 where
  pub by : Stamp
  pub there : Contains noted (record { id = x; share = share; stamp = by })
  pub above : IsTrue (stamp_le stamp by)

-- What was noted are stamps of the known transactions, and none of theirs is greater than all that were noted of the same
-- one. So the greatest stamps are those of the rules, and so are the transactions.
pub record AreStamps (layout : Layout) (shard : ℕ) (history : List Taken) (noted : List Noted) : Type 0 where
  pub only : (n : Noted) → Contains noted n → IsStampOf layout shard history n
  pub all :
      (x : TxnId) (body : BodyParts) (stamp : Stamp) → body_known history x ≡ Some body → Contains (stamps_of history x) stamp
      → IsCovered noted x (share_of layout (footprint_of body) shard) stamp

-- ---- the whole

pub record StandsFor (layout : Layout) (shelf : Shelf) (history : List Taken) : Type 0 where
  pub records : (x : TxnId) → record_at shelf.records x ≡ record_for (shard_of shelf.actor) history x
  pub index : AreStamps layout (shard_of shelf.actor) history shelf.index
  pub cells : (key : Key) → cell_at shelf.cells key ≡ cells_at layout (shard_of shelf.actor) history key
  pub greatest : shelf.greatest ≡ greatest_h shelf.actor history
  pub waits : AreWaits (shard_of shelf.actor) (record_at shelf.records) shelf.waits

-- ---- a step

-- a message that a store can take: one that brings a body, and that goes to it
pub record IsFor (own : Actor) (m : Message) : Type 0 where
  pub goes_to : to_of m ≡ own
  pub brings : IsTrue (is_some (body_in m))

-- A step of a store: whatever messages the shelf stands for, what is sent is the rules' answer to the message, and the shelf
-- then stands for these messages and the new one.
pub record AnswersByRules (layout : Layout) (old new : Shelf) (m : Message) (sent : List Message) : Type 0 where
  pub actor : new.actor ≡ old.actor
  pub answers :
      (messages : List Message) → StandsFor layout old (replay layout old.actor messages)
      → sent ≡ store_answer layout old.actor (replay layout old.actor messages) m
  pub stands :
      (messages : List Message) → StandsFor layout old (replay layout old.actor messages)
      → StandsFor layout new (replay layout old.actor (m ∷ messages))
