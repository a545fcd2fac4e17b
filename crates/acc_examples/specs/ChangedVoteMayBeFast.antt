-- Of five replicas three answer a recovery, two of them with unchanged votes. The two that gave no answer may have made a fast
-- quorum with them, and there is nothing to wait for: the transaction's own timestamp is proposed, not the greatest vote.
use Rattle.std.specs.Prelude.{ℕ, false, List, [], ◌∷◌, None}
use Rattle.acc_stamp.specs.declared.stamps.Stamp.{Stamp}
use Rattle.acc_topology.specs.Layout.{Layout}
use Rattle.acc_deps.specs.declared.shards.ShardDeps.{ShardDeps}
use Rattle.acc_message.specs.declared.message.Message.TheVariants.{Accept, Recover, RecoverOk}
use Rattle.acc_message.specs.declared.note.Note.TheVariants.{Recover as RecoverNote}
use Rattle.acc_message.specs.declared.entry.Emitted.{Emitted}
use Rattle.acc_message.specs.Coordinator.{silence}
use Rattle.acc_message.specs.NodeRules.{Act, Recovers, Takes}
use Rattle.acc_examples.specs.Clusters.{stamp, ballot, deps_in, last_shard, layout, writing, x}
use Rattle.acc_examples.specs.Actors.{a, b, node_at, store_at}

abbrev pub five : Layout
five = layout (1 ∷ 2 ∷ 3 ∷ 4 ∷ 5 ∷ []) (last_shard (1 ∷ 2 ∷ 3 ∷ 4 ∷ 5 ∷ []) ∷ [])

-- an answer without records of the store of a node to the recovery at node 3
abbrev pub voting : ℕ → Stamp → List ShardDeps → Act
voting node vote deps =
    Takes (RecoverOk (store_at node) (node_at 3) a (ballot 1 192)
    (record {
      store = store_at node;
      vote = vote;
      vote_deps = deps;
      accepted = None;
      committed = None;
      stable = None;
      superseded = false;
      waits = [];
    }))

abbrev pub acts : List Act
acts =
    Recovers a (writing x 1)
    ∷ voting 1 (stamp 1 64) []
    ∷ voting 4 (stamp 2 257) (deps_in 1 (b ∷ []))
    ∷ voting 5 (stamp 1 64) []
    ∷ []

abbrev pub emitted : List Emitted
emitted =
    record {
      notes = RecoverNote a (ballot 1 192) ∷ [];
      out =
          Recover (node_at 3) (store_at 1) a (ballot 1 192) (writing x 1)
          ∷ Recover (node_at 3) (store_at 2) a (ballot 1 192) (writing x 1)
          ∷ Recover (node_at 3) (store_at 3) a (ballot 1 192) (writing x 1)
          ∷ Recover (node_at 3) (store_at 4) a (ballot 1 192) (writing x 1)
          ∷ Recover (node_at 3) (store_at 5) a (ballot 1 192) (writing x 1)
          ∷ [];
    }
    ∷ silence
    ∷ silence
    ∷ record {
      notes = [];
      out =
          Accept (node_at 3) (store_at 1) a (ballot 1 192) (writing x 1) (stamp 1 64) (deps_in 1 (b ∷ []))
          ∷ Accept (node_at 3) (store_at 2) a (ballot 1 192) (writing x 1) (stamp 1 64) (deps_in 1 (b ∷ []))
          ∷ Accept (node_at 3) (store_at 3) a (ballot 1 192) (writing x 1) (stamp 1 64) (deps_in 1 (b ∷ []))
          ∷ Accept (node_at 3) (store_at 4) a (ballot 1 192) (writing x 1) (stamp 1 64) (deps_in 1 (b ∷ []))
          ∷ Accept (node_at 3) (store_at 5) a (ballot 1 192) (writing x 1) (stamp 1 64) (deps_in 1 (b ∷ []))
          ∷ [];
    }
    ∷ []
