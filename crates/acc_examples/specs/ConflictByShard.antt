-- Two updates of both shards share a key of the first shard alone. At a store of the second shard they don't conflict.
use Rattle.std.specs.Prelude.{List, [], ◌∷◌}
use Rattle.acc_stamp.specs.declared.actors.Actor.{Actor}
use Rattle.acc_stamp.specs.Actor.{actor_of}
use Rattle.acc_topology.specs.Layout.{Layout}
use Rattle.acc_message.specs.declared.message.Message.{Message}
use Rattle.acc_message.specs.declared.message.Message.TheVariants.{PreAccept, PreAcceptOk}
use Rattle.acc_examples.specs.Clusters.{stamp, layout, shard_to, last_shard, writing_both, m, y, alice, zoe}
use Rattle.acc_examples.specs.Actors.{a, b, zero, node_at}

abbrev pub two_shards : Layout
two_shards = layout (1 ∷ 2 ∷ 3 ∷ []) (shard_to m (1 ∷ 2 ∷ 3 ∷ []) ∷ last_shard (1 ∷ 2 ∷ 3 ∷ []) ∷ [])

abbrev pub own : Actor
own = actor_of 1 2

abbrev pub messages : List Message
messages =
    PreAccept (node_at 2) own b zero (writing_both alice 1 zoe 2)
    ∷ PreAccept (node_at 1) own a zero (writing_both alice 3 y 4)
    ∷ []

abbrev pub answers : List (List Message)
answers =
    (PreAcceptOk own (node_at 2) b zero (stamp 1 128) [] ∷ [])
    ∷ (PreAcceptOk own (node_at 1) a zero (stamp 1 64) [] ∷ [])
    ∷ []
