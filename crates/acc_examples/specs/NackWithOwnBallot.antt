-- A message of a recovery comes again and is refused. The Nack has the recovery's own ballot, so the recovery goes on.
use Rattle.std.specs.Prelude.{List, [], ◌∷◌}
use Rattle.acc_txn.specs.declared.parts.BodyParts.{BodyParts}
use Rattle.acc_txn.specs.declared.outcome.Reply.{Reply}
use Rattle.acc_message.specs.declared.note.Path.TheVariants.{Recovered}
use Rattle.acc_message.specs.declared.note.Note.{Note}
use Rattle.acc_message.specs.declared.note.Note.TheVariants.{Begin as BeginNote, Recover as RecoverNote, Ended, Decide, Outcome, Reply as ReplyNote}
use Rattle.acc_message.specs.declared.item.Item.{Item}
use Rattle.acc_message.specs.Run.{Cluster}
use Rattle.acc_run_laws.specs.declared.ask.Ask.{Ask}
use Rattle.acc_run_laws.specs.declared.ask.Ask.TheVariants.{Begin, Recover, Slow, Deliver}
use Rattle.acc_run_laws.specs.Asks.{after_asks}
use Rattle.acc_run_laws.specs.Schedules.{drained}
use Rattle.acc_examples.specs.Clusters.{stamp, id, ballot, node, last_shard, layout, writing, x, ok}

abbrev pub cluster : Cluster
cluster =
    record {
      layout = layout (1 ∷ 2 ∷ 3 ∷ []) (last_shard (1 ∷ 2 ∷ 3 ∷ []) ∷ []);
      starts = node 1 ∷ node 2 ∷ node 3 ∷ [];
      homes = 1 ∷ [];
      bodies = writing x 1 ∷ [];
    }

abbrev pub asks : List Ask
asks =
    Begin 0 ∷ Deliver 0 ∷ Deliver 1 ∷ Deliver 3 ∷ Deliver 4 ∷ Slow 0 ∷ Deliver 5 ∷ Recover 0 2 ∷ Recover 0 3
    ∷ Deliver 9 ∷ Deliver 9 ∷ Deliver 12 ∷ Deliver 13 ∷ Deliver 10 ∷ Deliver 15 ∷ Deliver 16 ∷ Deliver 19 ∷ []

abbrev pub items : List Item
items = drained cluster [] (after_asks cluster 0 asks [])

abbrev pub notes : List Note
notes =
    BeginNote (id 1 64)
    ∷ RecoverNote (id 1 64) (ballot 1 128)
    ∷ RecoverNote (id 1 64) (ballot 1 192)
    ∷ Ended (id 1 64) (ballot 1 128) (ballot 1 192)
    ∷ Ended (id 1 64) (ballot 0 0) (ballot 1 192)
    ∷ Decide (id 1 64) (stamp 1 64) Recovered []
    ∷ Outcome (id 1 64) (ok [])
    ∷ ReplyNote (id 1 64) (ok [])
    ∷ []

-- the bodies in the order of their outcomes, and their replies
abbrev pub serially : List BodyParts
serially = writing x 1 ∷ []

abbrev pub replies : List Reply
replies = ok [] ∷ []
