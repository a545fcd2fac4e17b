-- The actors of a cluster, by how they print.
use Rattle.std.specs.Prelude.{ℕ, ◌+◌, ◌==◌, List, [], ◌∷◌, ◌++◌, find, map, codes, decimal, Option, if◌then◌else◌}
use Rattle.std.specs.Map.{lookup}
use Rattle.std.specs.Str.{bytes_eq}
use Rattle.acc_stamp.specs.declared.actors.Actor.{Actor}
use Rattle.acc_stamp.specs.Actor.{actor_of, node_of, shard_of}
use Rattle.acc_topology.specs.Layout.{Layout, Shard}

-- a node by its number, and a store by those of its node and of its shard
abbrev pub actor_text : Actor → List ℕ
actor_text actor = if shard_of actor == 0 then decimal (node_of actor) else decimal (node_of actor) ++ codes "." ++ decimal (shard_of actor)

-- a store for each replica of each shard, from the shard of this number on
abbrev pub stores_from : ℕ → List Shard → List Actor
stores_from shard [] = []
stores_from shard (s ∷ shards) = map (λ node. actor_of node shard) s.replicas ++ stores_from (shard + 1) shards

abbrev pub actors : Layout → List Actor
actors layout = map (λ node. actor_of node 0) layout.nodes ++ stores_from 1 layout.shards

-- the actor that prints so
abbrev pub actor_named : List Actor → List ℕ → Option Actor
actor_named actors text = find (λ actor. bytes_eq text (actor_text actor)) actors

-- the first entry of a table that has this name
abbrev pub at_name : List (List ℕ × Actor) → List ℕ → Option Actor
at_name entries name = lookup (bytes_eq name) entries
