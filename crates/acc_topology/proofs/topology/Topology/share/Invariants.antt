-- The share has the keys so far that lie in the shard.
use Rattle.std.proofs.Common.{◌≡◌, take}
use Rattle.acc_topology.specs.Keys.{share_of}
use Rattle.acc_topology.proofs.topology.Topology.share.Given as goal

abbrev pub invariant-loop-key : goal.invariant-loop-key
invariant-loop-key l = l.share ≡ share_of l.self (take l.key-index l.key-items) l.shard
