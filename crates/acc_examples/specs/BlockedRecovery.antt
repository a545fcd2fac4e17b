-- A recovery of b is blocked by a; once a is decided a later one decides b.
use Rattle.std.specs.Prelude.{List, [], ◌∷◌}
use Rattle.acc_stamp.specs.Actor.{actor_of}
use Rattle.acc_txn.specs.declared.parts.BodyParts.{BodyParts}
use Rattle.acc_txn.specs.declared.outcome.Reply.{Reply}
use Rattle.acc_message.specs.declared.note.Path.TheVariants.{Recovered}
use Rattle.acc_message.specs.declared.note.Note.{Note}
use Rattle.acc_message.specs.declared.note.Note.TheVariants.{Begin as BeginNote, Recover as RecoverNote, Blocked, Decide, Outcome, Reply as ReplyNote}
use Rattle.acc_message.specs.declared.item.Item.{Item}
use Rattle.acc_message.specs.Run.{Cluster}
use Rattle.acc_run_laws.specs.declared.ask.Ask.{Ask}
use Rattle.acc_run_laws.specs.declared.ask.Ask.TheVariants.{Begin, Recover, Deliver, Restart}
use Rattle.acc_run_laws.specs.Asks.{after_asks}
use Rattle.acc_run_laws.specs.Schedules.{drained}
use Rattle.acc_examples.specs.Clusters.{stamp, id, ballot, deps_in, node, last_shard, layout, writing, x, ok}

abbrev pub cluster : Cluster
cluster =
    record {
      layout = layout (1 ∷ 2 ∷ 3 ∷ []) (last_shard (1 ∷ 2 ∷ 3 ∷ []) ∷ []);
      starts = node 1 ∷ node 2 ∷ node 3 ∷ [];
      homes = 1 ∷ 2 ∷ [];
      bodies = writing x 1 ∷ writing x 2 ∷ [];
    }

abbrev pub asks : List Ask
asks =
    Begin 0 ∷ Begin 1 ∷ Deliver 3 ∷ Deliver 0 ∷ Deliver 1 ∷ Deliver 7 ∷ Deliver 8 ∷ Deliver 4 ∷ Deliver 9
    ∷ Recover 1 3 ∷ Deliver 14 ∷ Deliver 15 ∷ Deliver 17 ∷ Deliver 18 ∷ []

-- the next asks, and those after a drain
abbrev pub more_asks : List Ask
more_asks = Restart (actor_of 1 0) ∷ Recover 0 2 ∷ []

abbrev pub later_asks : List Ask
later_asks = Recover 1 3 ∷ []

abbrev pub items : List Item
items = drained cluster (5 ∷ []) (after_asks cluster 18 later_asks (drained cluster (5 ∷ []) (after_asks cluster 15 more_asks (after_asks cluster 0 asks []))))

abbrev pub notes : List Note
notes =
    BeginNote (id 1 64)
    ∷ BeginNote (id 1 128)
    ∷ RecoverNote (id 1 128) (ballot 1 192)
    ∷ Blocked (id 1 128) (ballot 1 192) (id 1 64 ∷ [])
    ∷ RecoverNote (id 1 64) (ballot 2 128)
    ∷ Decide (id 1 64) (stamp 2 65) Recovered (deps_in 1 (id 1 128 ∷ []))
    ∷ RecoverNote (id 1 128) (ballot 4 192)
    ∷ Decide (id 1 128) (stamp 1 128) Recovered (deps_in 1 (id 1 64 ∷ []))
    ∷ Outcome (id 1 128) (ok [])
    ∷ ReplyNote (id 1 128) (ok [])
    ∷ Outcome (id 1 64) (ok [])
    ∷ []

-- the bodies in the order of their outcomes, and their replies
abbrev pub serially : List BodyParts
serially = writing x 2 ∷ writing x 1 ∷ []

abbrev pub replies : List Reply
replies = ok [] ∷ ok [] ∷ []
