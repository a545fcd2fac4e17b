-- Coverage: where two decided transactions conflict in a shard, the one with the smaller timestamp is among the
-- dependencies in that shard of every decision of the other.
use Rattle.std.specs.Prelude.{◌≡◌, ◌≢◌, ℕ, IsTrue, List, Some, Contains}
use Rattle.acc_stamp.specs.declared.stamps.TxnId.{TxnId}
use Rattle.acc_stamp.specs.Stamp.{stamp_lt}
use Rattle.acc_deps.specs.Deps.{deps_has}
use Rattle.acc_txn.specs.declared.parts.BodyParts.{BodyParts}
use Rattle.acc_message.specs.declared.item.Item.{Item}
use Rattle.acc_message.specs.Items.{notes_of}
use Rattle.acc_message.specs.Shares.{conflict_in}
use Rattle.acc_message.specs.Run.{Cluster}
use Rattle.acc_safety.specs.Decisions.{Decision, decisions_of, body_of}

-- these are two transactions, and their bodies conflict in the shard
pub record Conflict (cluster : Cluster) (items : List Item) (shard : ℕ) (x y : TxnId) : Type 0 where
  pub first : BodyParts
  pub second : BodyParts
  pub first_is : body_of cluster items x ≡ Some first
  pub second_is : body_of cluster items y ≡ Some second
  pub different : x ≢ y
  pub conflict : IsTrue (conflict_in cluster.layout shard first second)

abbrev pub Coverage : Cluster → List Item → Type 0
Coverage cluster items =
    (shard : ℕ) (a b : Decision) → Contains (decisions_of (notes_of items)) a → Contains (decisions_of (notes_of items)) b
    → Conflict cluster items shard a.id b.id → IsTrue (stamp_lt a.t b.t) → IsTrue (deps_has b.deps shard a.id)
