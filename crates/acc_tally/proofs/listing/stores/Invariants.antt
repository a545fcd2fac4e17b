use Rattle.std.proofs.Common.{◌≡◌}
use Rattle.std.specs.List.{flat_map}
use Rattle.acc_topology.specs.Sets.{members}
use Rattle.acc_txn.specs.declared.parts.BodyParts.{BodyParts}
use Rattle.acc_message.specs.Shares.{shards_used, stores_of_shard}
use Rattle.acc_tally.proofs.Listed.{below}
use Rattle.acc_tally.proofs.listing.stores.Given as goal

abbrev pub invariant-loop-shard : goal.invariant-loop-shard
invariant-loop-shard l =
    (body : BodyParts) → members l.shards ≡ shards_used l.topology body → l.stores ≡ flat_map (stores_of_shard l.topology) (below l.shards l.shard)
