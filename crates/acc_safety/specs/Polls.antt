-- Lists of answers of stores, each with its place in its store's history. A quorum is such a list, and two quorums meet in a
-- store that gave an answer to both.
use Rattle.std.specs.Prelude.{◌≡◌, ℕ, Bool, true, IsTrue, List, Some}
use Rattle.acc_stamp.specs.declared.stamps.TxnId.{TxnId}
use Rattle.acc_stamp.specs.declared.stamps.Ballot.{Ballot}
use Rattle.acc_stamp.specs.declared.actors.Actor.{Actor}
use Rattle.acc_stamp.specs.Actor.{shard_of}
use Rattle.acc_topology.specs.Layout.{Layout, IsLayout}
use Rattle.acc_topology.specs.Sets.{is_among}
use Rattle.acc_txn.specs.declared.parts.BodyParts.{BodyParts}
use Rattle.acc_message.specs.declared.message.Message.{Message}
use Rattle.acc_message.specs.declared.item.Item.{Item}
use Rattle.acc_message.specs.Fields.{from_of, id_of, ballot_of}
use Rattle.acc_message.specs.Shares.{shards_used, is_store_of, conflict_in}
use Rattle.acc_message.specs.Attempts.{vote_in_answer}
use Rattle.acc_message.specs.Run.{Cluster}
use Rattle.acc_safety.specs.Decisions.{body_of}
use Rattle.acc_safety.specs.Places.{IsIn}
use Rattle.acc_safety.specs.Histories.{FromStore}

-- the body of x, as it was begun
abbrev pub IsBody : Cluster → List Item → TxnId → BodyParts → Type 0
IsBody cluster items x body = body_of cluster items x ≡ Some body

-- an answer about x, of this ballot and of the kind that the test tells, which its sender, a store of x, sent
pub record IsAnswer (cluster : Cluster) (items : List Item) (x : TxnId) (body : BodyParts) (b : Ballot) (kind : Message → Bool) (m : Message) : Type 0 where
  pub is : kind m ≡ true
  pub about : id_of m ≡ x
  pub of_ballot : ballot_of m ≡ b
  pub of_store : is_store_of cluster.layout body (from_of m) ≡ true
  pub place : FromStore cluster items (from_of m) m

abbrev pub AreAnswers : Cluster → List Item → TxnId → BodyParts → Ballot → (Message → Bool) → List Message → Type 0
AreAnswers cluster items x body b kind answers = (m : Message) → IsIn m answers → IsAnswer cluster items x body b kind m

-- any answer, one that kept the own timestamp of x, and one that changed it
abbrev pub IsAny : Message → Type 0
IsAny m = Unit {0}

abbrev pub Kept : TxnId → Message → Type 0
Kept x m = vote_in_answer m ≡ x.0

abbrev pub Changed : TxnId → Message → Type 0
Changed x m = vote_in_answer m ≡ x.0 → ⊥

-- a store of the shard is the sender of one of these and of one of those
pub record Meeting (shard : ℕ) (one other : Message → Type 0) (answers others : List Message) : Type 0 where
  pub store : Actor
  pub of_shard : shard_of store ≡ shard
  pub first : Message
  pub second : Message
  pub first_in : IsIn first answers
  pub second_in : IsIn second others
  pub first_from : from_of first ≡ store
  pub second_from : from_of second ≡ store
  pub first_is : one first
  pub second_is : other second

-- in each shard that both bodies use, answers that pass the first test for x meet answers that pass the second one for y
abbrev pub QuorumsMeet : (Layout → TxnId → BodyParts → List Message → Bool) → (Layout → TxnId → BodyParts → List Message → Bool)
    → (TxnId → Message → Type 0) → (TxnId → Message → Type 0) → Type 0
QuorumsMeet first second one other =
    (layout : Layout) (x y : TxnId) (body rival : BodyParts) (answers others : List Message) (shard : ℕ) → IsLayout layout
    → IsTrue (is_among (shards_used layout body) shard) → IsTrue (is_among (shards_used layout rival) shard)
    → IsTrue (first layout x body answers) → IsTrue (second layout y rival others) → Meeting shard (one x) (other y) answers others

-- the bodies of two transactions conflict in the shard, each with the other
pub record AreRivals (cluster : Cluster) (items : List Item) (shard : ℕ) (x y : TxnId) (first second : BodyParts) : Type 0 where
  pub first_is : IsBody cluster items x first
  pub second_is : IsBody cluster items y second
  pub different : x ≡ y → ⊥
  pub conflict : conflict_in cluster.layout shard first second ≡ true
  pub conflict_back : conflict_in cluster.layout shard second first ≡ true
  pub first_uses : IsTrue (is_among (shards_used cluster.layout first) shard)
  pub second_uses : IsTrue (is_among (shards_used cluster.layout second) shard)
