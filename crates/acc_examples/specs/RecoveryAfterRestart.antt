-- The home of a restarts, and another node recovers a. The restart closed the client.
use Rattle.std.specs.Prelude.{List, [], ◌∷◌}
use Rattle.acc_stamp.specs.Actor.{actor_of}
use Rattle.acc_txn.specs.declared.parts.BodyParts.{BodyParts}
use Rattle.acc_txn.specs.declared.outcome.Reply.{Reply}
use Rattle.acc_message.specs.declared.note.Path.TheVariants.{Recovered}
use Rattle.acc_message.specs.declared.note.Note.{Note}
use Rattle.acc_message.specs.declared.note.Note.TheVariants.{Begin as BeginNote, Recover as RecoverNote, Decide, Outcome}
use Rattle.acc_message.specs.declared.item.Item.{Item}
use Rattle.acc_message.specs.Run.{Cluster}
use Rattle.acc_run_laws.specs.declared.ask.Ask.{Ask}
use Rattle.acc_run_laws.specs.declared.ask.Ask.TheVariants.{Begin, Recover, Deliver, Restart}
use Rattle.acc_run_laws.specs.Asks.{after_asks}
use Rattle.acc_run_laws.specs.Schedules.{drained}
use Rattle.acc_examples.specs.Clusters.{stamp, id, ballot, node, last_shard, layout, writing, x, ok}

abbrev pub cluster : Cluster
cluster =
    record {
      layout = layout (1 ∷ 2 ∷ 3 ∷ []) (last_shard (1 ∷ 2 ∷ 3 ∷ []) ∷ []);
      starts = node 1 ∷ node 2 ∷ node 3 ∷ [];
      homes = 1 ∷ [];
      bodies = writing x 1 ∷ [];
    }

abbrev pub asks : List Ask
asks = Begin 0 ∷ Deliver 0 ∷ Deliver 1 ∷ Deliver 2 ∷ Restart (actor_of 1 0) ∷ Recover 0 2 ∷ []

abbrev pub items : List Item
items = drained cluster [] (after_asks cluster 0 asks [])

abbrev pub notes : List Note
notes =
    BeginNote (id 1 64)
    ∷ RecoverNote (id 1 64) (ballot 1 128)
    ∷ Decide (id 1 64) (stamp 1 64) Recovered []
    ∷ Outcome (id 1 64) (ok [])
    ∷ []

-- the bodies in the order of their outcomes, and their replies
abbrev pub serially : List BodyParts
serially = writing x 1 ∷ []

abbrev pub replies : List Reply
replies = ok [] ∷ []
