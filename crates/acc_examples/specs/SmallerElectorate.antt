-- A shard of three replicas, of which two are the electorate: the votes of these two alone are fast or lose the fast path, and
-- the third counts for a majority and gets every message.
use Rattle.std.specs.Prelude.{ℕ, None, List, [], ◌∷◌, map}
use Rattle.acc_stamp.specs.declared.stamps.TxnId.{TxnId}
use Rattle.acc_stamp.specs.declared.stamps.Stamp.{Stamp}
use Rattle.acc_stamp.specs.declared.actors.Actor.{Actor}
use Rattle.acc_topology.specs.Layout.{Layout}
use Rattle.acc_txn.specs.declared.parts.BodyParts.{BodyParts}
use Rattle.acc_message.specs.declared.message.Message.TheVariants.{PreAccept, PreAcceptOk, Accept, Stable}
use Rattle.acc_message.specs.declared.note.Path.TheVariants.{Fast}
use Rattle.acc_message.specs.declared.note.Note.TheVariants.{Begin, Decide}
use Rattle.acc_message.specs.declared.entry.Emitted.{Emitted}
use Rattle.acc_message.specs.Coordinator.{silence}
use Rattle.acc_message.specs.NodeRules.{Act, Begins, Takes}
use Rattle.acc_examples.specs.Clusters.{stamp, id, layout, writing, x}
use Rattle.acc_examples.specs.Actors.{a, zero, node_at, store_at}

abbrev pub two_of_three : Layout
two_of_three = layout (1 ∷ 2 ∷ 3 ∷ []) (record { end = None; replicas = 1 ∷ 2 ∷ 3 ∷ []; electorate = 1 ∷ 2 ∷ [] } ∷ [])

-- the id of the second transaction of node 1
abbrev pub second : TxnId
second = id 2 64

abbrev pub voted : TxnId → ℕ → Stamp → Act
voted y node vote = Takes (PreAcceptOk (store_at node) (node_at 1) y zero vote [])

abbrev pub acts : List Act
acts =
    Begins 0 (writing x 1)
    ∷ voted a 3 (stamp 1 64)
    ∷ voted a 1 (stamp 1 64)
    ∷ voted a 2 (stamp 1 64)
    ∷ Begins 1 (writing x 2)
    ∷ voted second 3 (stamp 3 193)
    ∷ voted second 1 (stamp 2 64)
    ∷ voted second 2 (stamp 4 129)
    ∷ []

abbrev pub all : List Actor
all = store_at 1 ∷ store_at 2 ∷ store_at 3 ∷ []

abbrev pub beginning : TxnId → BodyParts → Emitted
beginning y body = record { notes = Begin y ∷ []; out = map (λ store. PreAccept (node_at 1) store y zero body) all }

abbrev pub emitted : List Emitted
emitted =
    beginning a (writing x 1)
    ∷ silence
    ∷ silence
    ∷ record {
      notes = Decide a (stamp 1 64) Fast [] ∷ [];
      out = map (λ store. Stable (node_at 1) store a zero (writing x 1) (stamp 1 64) []) all;
    }
    ∷ beginning second (writing x 2)
    ∷ silence
    ∷ silence
    ∷ record { notes = []; out = map (λ store. Accept (node_at 1) store second zero (writing x 2) (stamp 4 129) []) all }
    ∷ []
