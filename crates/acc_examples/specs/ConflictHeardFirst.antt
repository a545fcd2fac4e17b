-- Two updates of one key that reach a store in reverse order, so that its vote for a isn't a's own timestamp.
use Rattle.std.specs.Prelude.{List, [], ◌∷◌}
use Rattle.acc_txn.specs.declared.parts.BodyParts.{BodyParts}
use Rattle.acc_txn.specs.declared.outcome.Reply.{Reply}
use Rattle.acc_message.specs.declared.note.Path.TheVariants.{Fast, Slow}
use Rattle.acc_message.specs.declared.note.Note.{Note}
use Rattle.acc_message.specs.declared.note.Note.TheVariants.{Begin as BeginNote, Decide, Outcome, Reply as ReplyNote}
use Rattle.acc_message.specs.declared.item.Item.{Item}
use Rattle.acc_message.specs.Run.{Cluster}
use Rattle.acc_run_laws.specs.declared.ask.Ask.{Ask}
use Rattle.acc_run_laws.specs.declared.ask.Ask.TheVariants.{Begin, Deliver}
use Rattle.acc_run_laws.specs.Asks.{after_asks}
use Rattle.acc_run_laws.specs.Schedules.{drained}
use Rattle.acc_examples.specs.Clusters.{stamp, id, deps_in, node, last_shard, layout, writing, x, ok}

abbrev pub cluster : Cluster
cluster =
    record {
      layout = layout (1 ∷ 2 ∷ []) (last_shard (1 ∷ []) ∷ []);
      starts = node 1 ∷ node 2 ∷ [];
      homes = 1 ∷ 2 ∷ [];
      bodies = writing x 1 ∷ writing x 2 ∷ [];
    }

abbrev pub asks : List Ask
asks = Begin 0 ∷ Begin 1 ∷ Deliver 1 ∷ []

abbrev pub items : List Item
items = drained cluster [] (after_asks cluster 0 asks [])

abbrev pub notes : List Note
notes =
    BeginNote (id 1 64)
    ∷ BeginNote (id 1 128)
    ∷ Decide (id 1 128) (stamp 1 128) Fast []
    ∷ Outcome (id 1 128) (ok [])
    ∷ ReplyNote (id 1 128) (ok [])
    ∷ Decide (id 1 64) (stamp 2 65) Slow (deps_in 1 (id 1 128 ∷ []))
    ∷ Outcome (id 1 64) (ok [])
    ∷ ReplyNote (id 1 64) (ok [])
    ∷ []

-- the bodies in the order of their outcomes, and their replies
abbrev pub serially : List BodyParts
serially = writing x 2 ∷ writing x 1 ∷ []

abbrev pub replies : List Reply
replies = ok [] ∷ ok [] ∷ []
