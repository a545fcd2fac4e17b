-- The cluster that values make.
use Rattle.std.specs.Prelude.{ℕ, List}
use Rattle.acc_topology.specs.declared.given.NodeSpec.{NodeSpec}
use Rattle.acc_topology.specs.Layout.{Layout}
use Rattle.acc_txn.specs.declared.parts.BodyParts.{BodyParts}
use Rattle.acc_message.specs.Run.{Cluster}

abbrev pub cluster : Layout → List NodeSpec → List ℕ → List BodyParts → Cluster
cluster layout starts homes bodies = record { layout = layout; starts = starts; homes = homes; bodies = bodies }
