-- What a cluster has to keep to.
use Rattle.std.specs.Prelude.{◌≡◌, ℕ, ◌≤◌, ◌==◌, IsTrue, List, length, count_by}
use Rattle.std.specs.List.{AllByRecursion}
use Rattle.acc_topology.specs.declared.given.NodeSpec.{NodeSpec}
use Rattle.acc_topology.specs.Layout.{Layout, IsLayout}
use Rattle.acc_topology.specs.Sets.{is_among}
use Rattle.acc_txn.specs.Rules.{IsBody}
use Rattle.acc_message.specs.Run.{Cluster, EachStands}
use Rattle.acc_message.specs.declared.item.Item.{Item}

-- each node has one start, nothing else has one, and no clock starts too late
pub record AreStarts (layout : Layout) (starts : List NodeSpec) : Type 0 where
  pub each : (node : ℕ) → IsTrue (is_among layout.nodes node) → count_by (λ (s : NodeSpec). s.id == node) starts ≡ 1
  pub only : AllByRecursion (λ (s : NodeSpec). IsTrue (is_among layout.nodes s.id)) starts
  pub clocks : AllByRecursion (λ (s : NodeSpec). s.clock ≤ 1000000000000) starts

-- the layout is one that is accepted, each node has its start, and each transaction, of which there may be any number, has a home,
-- which is a node, and a body that keeps its rules
pub record IsValidCluster (cluster : Cluster) : Type 0 where
  pub layout : IsLayout cluster.layout
  pub starts : AreStarts cluster.layout cluster.starts
  pub homes : AllByRecursion (λ node. IsTrue (is_among cluster.layout.nodes node)) cluster.homes
  pub as_many : length cluster.homes ≡ length cluster.bodies
  pub bodies : AllByRecursion IsBody cluster.bodies

-- Items of a valid cluster in which each entry stands on those before it. This alone carries safety: neither the marks of lost
-- entries nor downs matter.
pub record IsStanding (cluster : Cluster) (items : List Item) : Type 0 where
  pub valid : IsValidCluster cluster
  pub stands : EachStands cluster items
