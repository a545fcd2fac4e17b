-- Two votes of five are no majority, so the first slow is passed over.
use Rattle.std.specs.Prelude.{List, [], ◌∷◌}
use Rattle.acc_txn.specs.declared.parts.BodyParts.{BodyParts}
use Rattle.acc_txn.specs.declared.outcome.Reply.{Reply}
use Rattle.acc_message.specs.declared.note.Path.TheVariants.{Slow}
use Rattle.acc_message.specs.declared.note.Note.{Note}
use Rattle.acc_message.specs.declared.note.Note.TheVariants.{Begin as BeginNote, Decide, Outcome, Reply as ReplyNote}
use Rattle.acc_message.specs.declared.item.Skip.TheVariants.{NoQuorum}
use Rattle.acc_message.specs.declared.item.Item.{Item}
use Rattle.acc_message.specs.declared.item.Item.TheVariants.{Skipped}
use Rattle.acc_message.specs.Run.{Cluster}
use Rattle.acc_run_laws.specs.declared.ask.Ask.{Ask}
use Rattle.acc_run_laws.specs.declared.ask.Ask.TheVariants.{Begin, Slow, Deliver}
use Rattle.acc_run_laws.specs.Asks.{after_asks}
use Rattle.acc_run_laws.specs.Schedules.{drained}
use Rattle.acc_examples.specs.Clusters.{stamp, id, node, last_shard, layout, writing, x, ok}

abbrev pub cluster : Cluster
cluster =
    record {
      layout = layout (1 ∷ 2 ∷ 3 ∷ 4 ∷ 5 ∷ []) (last_shard (1 ∷ 2 ∷ 3 ∷ 4 ∷ 5 ∷ []) ∷ []);
      starts = node 1 ∷ node 2 ∷ node 3 ∷ node 4 ∷ node 5 ∷ [];
      homes = 1 ∷ [];
      bodies = writing x 1 ∷ [];
    }

abbrev pub asks : List Ask
asks = Begin 0 ∷ Deliver 0 ∷ Deliver 1 ∷ Deliver 5 ∷ Deliver 6 ∷ Slow 0 ∷ Deliver 2 ∷ Deliver 7 ∷ Slow 0 ∷ []

abbrev pub items : List Item
items = drained cluster [] (after_asks cluster 0 asks [])

abbrev pub notes : List Note
notes =
    BeginNote (id 1 64)
    ∷ Decide (id 1 64) (stamp 1 64) Slow []
    ∷ Outcome (id 1 64) (ok [])
    ∷ ReplyNote (id 1 64) (ok [])
    ∷ []

abbrev pub skips : List Item
skips = Skipped 5 (NoQuorum 0) ∷ []

-- the bodies in the order of their outcomes, and their replies
abbrev pub serially : List BodyParts
serially = writing x 1 ∷ []

abbrev pub replies : List Reply
replies = ok [] ∷ []
