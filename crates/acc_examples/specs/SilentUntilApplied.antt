-- A store can't answer the Stable of b as long as a isn't applied there. It does so when the Apply of a comes.
use Rattle.std.specs.Prelude.{List, [], ◌∷◌}
use Rattle.acc_txn.specs.declared.parts.BodyParts.{BodyParts}
use Rattle.acc_txn.specs.declared.outcome.Reply.{Reply}
use Rattle.acc_message.specs.declared.note.Path.TheVariants.{Fast}
use Rattle.acc_message.specs.declared.note.Note.{Note}
use Rattle.acc_message.specs.declared.note.Note.TheVariants.{Begin as BeginNote, Decide, Outcome, Reply as ReplyNote}
use Rattle.acc_message.specs.declared.item.Item.{Item}
use Rattle.acc_message.specs.Run.{Cluster}
use Rattle.acc_run_laws.specs.declared.ask.Ask.{Ask}
use Rattle.acc_run_laws.specs.declared.ask.Ask.TheVariants.{Begin, Deliver}
use Rattle.acc_run_laws.specs.Asks.{after_asks}
use Rattle.acc_examples.specs.Clusters.{stamp, id, deps_in, node, last_shard, layout, writing, reading, x, ok, number_cell}

abbrev pub cluster : Cluster
cluster =
    record {
      layout = layout (1 ∷ 2 ∷ []) (last_shard (1 ∷ []) ∷ []);
      starts = node 1 ∷ node 2 ∷ [];
      homes = 1 ∷ 2 ∷ [];
      bodies = writing x 7 ∷ reading x ∷ [];
    }

abbrev pub asks : List Ask
asks =
    Begin 0 ∷ Begin 1 ∷ Deliver 0 ∷ Deliver 1 ∷ Deliver 2 ∷ Deliver 3 ∷ Deliver 5 ∷ Deliver 4 ∷ Deliver 6
    ∷ Deliver 7 ∷ Deliver 8 ∷ Deliver 9 ∷ []

abbrev pub items : List Item
items = after_asks cluster 0 asks []

abbrev pub notes : List Note
notes =
    BeginNote (id 1 64)
    ∷ BeginNote (id 1 128)
    ∷ Decide (id 1 64) (stamp 1 64) Fast []
    ∷ Decide (id 1 128) (stamp 1 128) Fast (deps_in 1 (id 1 64 ∷ []))
    ∷ Outcome (id 1 64) (ok [])
    ∷ ReplyNote (id 1 64) (ok [])
    ∷ Outcome (id 1 128) (ok (number_cell 7 ∷ []))
    ∷ ReplyNote (id 1 128) (ok (number_cell 7 ∷ []))
    ∷ []

-- the bodies in the order of their outcomes, and their replies
abbrev pub serially : List BodyParts
serially = writing x 7 ∷ reading x ∷ []

abbrev pub replies : List Reply
replies = ok [] ∷ ok (number_cell 7 ∷ []) ∷ []
