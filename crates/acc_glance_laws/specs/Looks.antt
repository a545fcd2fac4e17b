-- Looks at a key without a transaction: what the visited stores tell, and what the look then shows. A moment is a number
-- of items.
use Rattle.std.specs.Prelude.{◌≡◌, ℕ, ◌≤◌, ◌==◌, Bool, IsTrue, List, length, Option, Some, Contains}
use Rattle.std.specs.List.{AllByRecursion, list_any}
use Rattle.acc_stamp.specs.declared.stamps.TxnId.{TxnId}
use Rattle.acc_stamp.specs.Actor.{actor_of}
use Rattle.acc_stamp.specs.Rising.{id_among}
use Rattle.acc_topology.specs.Layout.{shard_at}
use Rattle.acc_topology.specs.Keys.{shard_of_key}
use Rattle.acc_topology.specs.Quorums.{is_majority}
use Rattle.acc_value.specs.declared.key.Key.{Key}
use Rattle.acc_value.specs.declared.value.Value.{Value}
use Rattle.acc_message.specs.declared.item.Item.{Item}
use Rattle.acc_message.specs.Items.{notes_of}
use Rattle.acc_message.specs.Taken.{Taken}
use Rattle.acc_message.specs.Run.{Cluster, taken_of}
use Rattle.acc_store.specs.Queries.{known_writers, cell_if_applied}
use Rattle.acc_safety.specs.Decisions.{Answered, first_outcomes}
use Rattle.acc_glance_laws.specs.SerialCells.{oldest, cell_after}

-- a visit of the store of the key's shard at this node, when there were so many items
pub record Visit : Type 0 where
  pub node : ℕ
  pub moment : ℕ

-- what the visited store had taken
abbrev pub history_at : Cluster → List Item → Key → Visit → List Taken
history_at cluster items key visit =
    taken_of cluster (actor_of visit.node (shard_of_key cluster.layout key)) (oldest visit.moment items)

-- what it tells: the transactions that it knows and that write the key
abbrev pub writers_told : Cluster → List Item → Key → Visit → List TxnId
writers_told cluster items key visit =
    known_writers cluster.layout (shard_of_key cluster.layout key) (history_at cluster items key visit) key

-- its cell of the key, where it has applied each of these
abbrev pub cell_told : Cluster → List Item → Key → List TxnId → Visit → Option (Option Value)
cell_told cluster items key ids visit =
    cell_if_applied cluster.layout (shard_of_key cluster.layout key) (history_at cluster items key visit) ids key

abbrev pub is_visited : List Visit → ℕ → Bool
is_visited visits node = list_any (λ (v : Visit). v.node == node) visits

-- Since that moment a majority of the stores of the key's shard were visited, and all writers of the key that they told
-- are among these.
pub record IsAsked (cluster : Cluster) (items : List Item) (key : Key) (from : ℕ) (visits : List Visit) (ids : List TxnId) : Type 0 where
  pub majority : IsTrue (is_majority (shard_at cluster.layout (shard_of_key cluster.layout key)) (is_visited visits))
  pub since : AllByRecursion (λ (v : Visit). from ≤ v.moment) visits
  pub told :
      AllByRecursion (λ (v : Visit). (x : TxnId) → IsTrue (id_among x (writers_told cluster items key v)) → IsTrue (id_among x ids)) visits

-- a visit since that moment found all of these applied, and this cell
pub record IsRead (cluster : Cluster) (items : List Item) (key : Key) (from : ℕ) (ids : List TxnId) (read : Visit) (cell : Option Value) : Type 0 where
  pub since : from ≤ read.moment
  pub within : read.moment ≤ length items
  pub told : cell_told cluster items key ids read ≡ Some cell

-- at a moment between these two, both included, the serial order had this cell
pub record WasThere (cluster : Cluster) (items : List Item) (key : Key) (from to : ℕ) (cell : Option Value) : Type 0 where
  pub at : ℕ
  pub since : from ≤ at
  pub until : at ≤ to
  pub shows : cell_after cluster items at key ≡ cell

-- and by then the transaction that was replied to was among the first outcomes, with its reply
pub record ShowsReplied (cluster : Cluster) (items : List Item) (key : Key) (from to : ℕ) (cell : Option Value) (a : Answered) : Type 0 where
  pub there : WasThere cluster items key from to cell
  pub counted : Contains (first_outcomes (notes_of (oldest there.at items))) a
