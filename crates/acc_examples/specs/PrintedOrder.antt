-- The timestamp of b is smaller, but a is done first. A serial run has to take them as their outcomes are printed.
use Rattle.std.specs.Prelude.{List, [], ◌∷◌}
use Rattle.acc_txn.specs.declared.parts.BodyParts.{BodyParts}
use Rattle.acc_txn.specs.declared.outcome.Reply.{Reply}
use Rattle.acc_message.specs.declared.note.Path.TheVariants.{Fast, Slow}
use Rattle.acc_message.specs.declared.note.Note.{Note}
use Rattle.acc_message.specs.declared.note.Note.TheVariants.{Begin as BeginNote, Decide, Outcome, Reply as ReplyNote}
use Rattle.acc_message.specs.declared.item.Item.{Item}
use Rattle.acc_message.specs.Run.{Cluster}
use Rattle.acc_run_laws.specs.declared.ask.Ask.TheVariants.{Begin}
use Rattle.acc_run_laws.specs.Asks.{after_asks}
use Rattle.acc_run_laws.specs.Schedules.{drained}
use Rattle.acc_examples.specs.Clusters.{stamp, id, deps_in, last_shard, layout, writing, reading_both, x, y, ok, number_cell}

abbrev pub cluster : Cluster
cluster =
    record {
      layout = layout (1 ∷ 2 ∷ 3 ∷ []) (last_shard (1 ∷ []) ∷ []);
      starts = record { id = 1; clock = 9 } ∷ record { id = 2; clock = 4 } ∷ record { id = 3; clock = 0 } ∷ [];
      homes = 1 ∷ 2 ∷ 3 ∷ [];
      bodies = writing x 1 ∷ writing y 2 ∷ reading_both x y ∷ [];
    }

abbrev pub items : List Item
items = drained cluster [] (after_asks cluster 4 (Begin 2 ∷ []) (drained cluster [] (after_asks cluster 2 (Begin 1 ∷ []) (drained cluster [] (after_asks cluster 0 (Begin 0 ∷ []) [])))))

abbrev pub notes : List Note
notes =
    BeginNote (id 10 64)
    ∷ Decide (id 10 64) (stamp 10 64) Fast []
    ∷ Outcome (id 10 64) (ok [])
    ∷ ReplyNote (id 10 64) (ok [])
    ∷ BeginNote (id 5 128)
    ∷ Decide (id 5 128) (stamp 5 128) Fast []
    ∷ Outcome (id 5 128) (ok [])
    ∷ ReplyNote (id 5 128) (ok [])
    ∷ BeginNote (id 1 192)
    ∷ Decide (id 1 192) (stamp 11 65) Slow (deps_in 1 (id 5 128 ∷ id 10 64 ∷ []))
    ∷ Outcome (id 1 192) (ok (number_cell 1 ∷ number_cell 2 ∷ []))
    ∷ ReplyNote (id 1 192) (ok (number_cell 1 ∷ number_cell 2 ∷ []))
    ∷ []

-- the bodies in the order of their outcomes, and their replies
abbrev pub serially : List BodyParts
serially = writing x 1 ∷ writing y 2 ∷ reading_both x y ∷ []

abbrev pub replies : List Reply
replies = ok [] ∷ ok [] ∷ ok (number_cell 1 ∷ number_cell 2 ∷ []) ∷ []
