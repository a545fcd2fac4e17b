-- A transfer between two shards, and a read of both cells.
use Rattle.std.specs.Prelude.{ℕ, List, [], ◌∷◌, ◌++◌}
use Rattle.acc_txn.specs.declared.parts.BodyParts.{BodyParts}
use Rattle.acc_txn.specs.declared.outcome.Reply.{Reply}
use Rattle.acc_message.specs.declared.note.Path.TheVariants.{Fast}
use Rattle.acc_message.specs.declared.note.Note.{Note}
use Rattle.acc_message.specs.declared.note.Note.TheVariants.{Begin as BeginNote, Decide, Outcome, Reply as ReplyNote}
use Rattle.acc_message.specs.declared.item.Item.{Item}
use Rattle.acc_message.specs.Run.{Cluster}
use Rattle.acc_run_laws.specs.declared.ask.Ask.TheVariants.{Begin}
use Rattle.acc_run_laws.specs.Asks.{after_asks}
use Rattle.acc_run_laws.specs.Schedules.{drained}
use Rattle.acc_examples.specs.Clusters.{stamp, id, deps_in, node, last_shard, shard_to, layout, writing, reading_both, transfer, m, alice, zoe, ok, number_cell}

abbrev pub cluster : Cluster
cluster =
    record {
      layout = layout (1 ∷ 2 ∷ 3 ∷ []) (shard_to m (1 ∷ 2 ∷ 3 ∷ []) ∷ last_shard (1 ∷ 2 ∷ 3 ∷ []) ∷ []);
      starts = node 1 ∷ node 2 ∷ node 3 ∷ [];
      homes = 1 ∷ 1 ∷ 1 ∷ 1 ∷ [];
      bodies = writing alice 100 ∷ writing zoe 5 ∷ transfer alice zoe 30 ∷ reading_both alice zoe ∷ [];
    }

-- a transaction is begun, as the step of this number, and the cluster is drained
unfoldable pub round : ℕ → ℕ → List Item → List Item
round step txn earlier = drained cluster [] (after_asks cluster step (Begin txn ∷ []) earlier)

abbrev pub items : List Item
items = round 6 3 (round 4 2 (round 2 1 (round 0 0 [])))

abbrev pub notes : List Note
notes =
    BeginNote (id 1 64)
    ∷ Decide (id 1 64) (stamp 1 64) Fast []
    ∷ Outcome (id 1 64) (ok [])
    ∷ ReplyNote (id 1 64) (ok [])
    ∷ BeginNote (id 2 64)
    ∷ Decide (id 2 64) (stamp 2 64) Fast []
    ∷ Outcome (id 2 64) (ok [])
    ∷ ReplyNote (id 2 64) (ok [])
    ∷ BeginNote (id 3 64)
    ∷ Decide (id 3 64) (stamp 3 64) Fast (deps_in 1 (id 1 64 ∷ []) ++ deps_in 2 (id 2 64 ∷ []))
    ∷ Outcome (id 3 64) (ok (number_cell 100 ∷ number_cell 5 ∷ []))
    ∷ ReplyNote (id 3 64) (ok (number_cell 100 ∷ number_cell 5 ∷ []))
    ∷ BeginNote (id 4 64)
    ∷ Decide (id 4 64) (stamp 4 64) Fast (deps_in 1 (id 1 64 ∷ id 3 64 ∷ []) ++ deps_in 2 (id 2 64 ∷ id 3 64 ∷ []))
    ∷ Outcome (id 4 64) (ok (number_cell 70 ∷ number_cell 35 ∷ []))
    ∷ ReplyNote (id 4 64) (ok (number_cell 70 ∷ number_cell 35 ∷ []))
    ∷ []

-- the bodies in the order of their outcomes, and their replies
abbrev pub serially : List BodyParts
serially = writing alice 100 ∷ writing zoe 5 ∷ transfer alice zoe 30 ∷ reading_both alice zoe ∷ []

abbrev pub replies : List Reply
replies = ok [] ∷ ok [] ∷ ok (number_cell 100 ∷ number_cell 5 ∷ []) ∷ ok (number_cell 70 ∷ number_cell 35 ∷ []) ∷ []
