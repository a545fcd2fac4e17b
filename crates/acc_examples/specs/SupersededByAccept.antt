-- By the votes that the recovery of a hears, a was possibly decided fast. A store that accepted b without a rules it out.
use Rattle.std.specs.Prelude.{List, [], ◌∷◌}
use Rattle.acc_txn.specs.declared.parts.BodyParts.{BodyParts}
use Rattle.acc_txn.specs.declared.outcome.Reply.{Reply}
use Rattle.acc_message.specs.declared.note.Path.TheVariants.{Slow, Recovered}
use Rattle.acc_message.specs.declared.note.Note.{Note}
use Rattle.acc_message.specs.declared.note.Note.TheVariants.{Begin as BeginNote, Recover as RecoverNote, Ended, Decide, Outcome, Reply as ReplyNote}
use Rattle.acc_message.specs.declared.item.Item.{Item}
use Rattle.acc_message.specs.Run.{Cluster}
use Rattle.acc_run_laws.specs.declared.ask.Ask.{Ask}
use Rattle.acc_run_laws.specs.declared.ask.Ask.TheVariants.{Begin, Recover, Slow, Deliver}
use Rattle.acc_run_laws.specs.Asks.{after_asks}
use Rattle.acc_run_laws.specs.Schedules.{drained}
use Rattle.acc_examples.specs.Clusters.{stamp, id, ballot, deps_in, node, last_shard, layout, writing, x, ok}

abbrev pub cluster : Cluster
cluster =
    record {
      layout = layout (1 ∷ 2 ∷ 3 ∷ 4 ∷ 5 ∷ []) (last_shard (1 ∷ 2 ∷ 3 ∷ 4 ∷ 5 ∷ []) ∷ []);
      starts = node 1 ∷ node 2 ∷ node 3 ∷ node 4 ∷ node 5 ∷ [];
      homes = 1 ∷ 2 ∷ [];
      bodies = writing x 1 ∷ writing x 2 ∷ [];
    }

abbrev pub asks : List Ask
asks =
    Begin 0 ∷ Begin 1 ∷ Deliver 0 ∷ Deliver 1 ∷ Deliver 7 ∷ Deliver 8 ∷ Deliver 9 ∷ Deliver 12 ∷ Deliver 13
    ∷ Deliver 14 ∷ Slow 1 ∷ Deliver 17 ∷ Recover 0 4 ∷ Deliver 21 ∷ Deliver 22 ∷ Deliver 23 ∷ Deliver 26
    ∷ Deliver 27 ∷ Deliver 28 ∷ []

abbrev pub items : List Item
items = drained cluster [] (after_asks cluster 0 asks [])

abbrev pub notes : List Note
notes =
    BeginNote (id 1 64)
    ∷ BeginNote (id 1 128)
    ∷ RecoverNote (id 1 64) (ballot 1 256)
    ∷ Ended (id 1 64) (ballot 0 0) (ballot 1 256)
    ∷ Decide (id 1 128) (stamp 1 128) Slow (deps_in 1 (id 1 64 ∷ []))
    ∷ Decide (id 1 64) (stamp 2 193) Recovered (deps_in 1 (id 1 128 ∷ []))
    ∷ Outcome (id 1 128) (ok [])
    ∷ ReplyNote (id 1 128) (ok [])
    ∷ Outcome (id 1 64) (ok [])
    ∷ ReplyNote (id 1 64) (ok [])
    ∷ []

-- the bodies in the order of their outcomes, and their replies
abbrev pub serially : List BodyParts
serially = writing x 2 ∷ writing x 1 ∷ []

abbrev pub replies : List Reply
replies = ok [] ∷ ok [] ∷ []
