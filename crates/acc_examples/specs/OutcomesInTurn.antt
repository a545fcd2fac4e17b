-- Outcomes and replies that one serial map gives, and some that it doesn't. Items stand newest first.
use Rattle.std.specs.Prelude.{List, [], ◌∷◌, None}
use Rattle.acc_txn.specs.declared.outcome.Reply.{Reply}
use Rattle.acc_message.specs.declared.note.Note.TheVariants.{Outcome as OutcomeNote, Reply as ReplyNote}
use Rattle.acc_message.specs.declared.item.Item.{Item}
use Rattle.acc_message.specs.Run.{Cluster}
use Rattle.acc_examples.specs.Clusters.{node, writing, reading, x, ok, number_cell}
use Rattle.acc_examples.specs.Actors.{three, a, b, c}
use Rattle.acc_safety.specs.Decisions.{Answered}
use Rattle.acc_examples.specs.Noted.{begun, noting, finished, answered, finished_and_answered}

-- a writes 5 to x, b writes 6 to it, and c reads it
abbrev pub cluster : Cluster
cluster =
    record {
      layout = three;
      starts = node 1 ∷ node 2 ∷ node 3 ∷ [];
      homes = 1 ∷ 2 ∷ 3 ∷ [];
      bodies = writing x 5 ∷ writing x 6 ∷ reading x ∷ [];
    }

abbrev pub nothing_read : Reply
nothing_read = ok (None ∷ [])

abbrev pub five_read : Reply
five_read = ok (number_cell 5 ∷ [])

abbrev pub six_read : Reply
six_read = ok (number_cell 6 ∷ [])

-- No outcome. A write and a read, in either order. Each read sees the last write before it. A second outcome that equals the
-- first, at a place where another would be due. A reply in the step of its outcome or after it, or none.
abbrev pub serial_ones : List (List Item)
serial_ones =
    (begun 2 c ∷ begun 0 a ∷ [])
    ∷ (finished c five_read ∷ finished_and_answered a (ok []) ∷ begun 2 c ∷ begun 0 a ∷ [])
    ∷ (finished_and_answered a (ok []) ∷ begun 0 a ∷ finished c nothing_read ∷ begun 2 c ∷ [])
    ∷ (finished c six_read ∷ finished b (ok []) ∷ finished a (ok []) ∷ begun 2 c ∷ begun 1 b ∷ begun 0 a ∷ [])
    ∷ (finished c five_read ∷ finished a (ok []) ∷ finished b (ok []) ∷ begun 2 c ∷ begun 1 b ∷ begun 0 a ∷ [])
    ∷ (answered c nothing_read ∷ finished c nothing_read ∷ finished a (ok []) ∷ finished c nothing_read ∷ begun 2 c ∷ begun 0 a ∷ [])
    ∷ (finished c nothing_read ∷ answered c nothing_read ∷ finished c nothing_read ∷ begun 2 c ∷ [])
    ∷ []

-- A read misses the write before it; sees one after it; sees one that was overwritten. A second outcome differs, also where
-- it would be due there. A reply differs; comes without an outcome; comes before it, also in one step. An outcome comes
-- before its begin, or without one, so that it has no body.
abbrev pub not_serial_ones : List (List Item)
not_serial_ones =
    (finished c nothing_read ∷ finished a (ok []) ∷ begun 2 c ∷ begun 0 a ∷ [])
    ∷ (finished a (ok []) ∷ finished c five_read ∷ begun 2 c ∷ begun 0 a ∷ [])
    ∷ (finished c five_read ∷ finished b (ok []) ∷ finished a (ok []) ∷ begun 2 c ∷ begun 1 b ∷ begun 0 a ∷ [])
    ∷ (finished c six_read ∷ finished c nothing_read ∷ begun 2 c ∷ [])
    ∷ (finished c five_read ∷ finished a (ok []) ∷ finished c nothing_read ∷ begun 2 c ∷ begun 0 a ∷ [])
    ∷ (answered c five_read ∷ finished c nothing_read ∷ begun 2 c ∷ [])
    ∷ (answered c nothing_read ∷ begun 2 c ∷ [])
    ∷ (finished c nothing_read ∷ answered c nothing_read ∷ begun 2 c ∷ [])
    ∷ (noting (ReplyNote c nothing_read ∷ OutcomeNote c nothing_read ∷ []) ∷ begun 2 c ∷ [])
    ∷ (begun 2 c ∷ finished c nothing_read ∷ [])
    ∷ (finished c nothing_read ∷ begun 0 a ∷ [])
    ∷ []

-- the first outcome of each transaction stands where it stood first, and a later one isn't kept, whether or not it differs
abbrev pub outcome_of_c : Reply → Answered
outcome_of_c reply = record { id = c; reply = reply }

abbrev pub outcome_of_a : Answered
outcome_of_a = record { id = a; reply = ok [] }

abbrev pub outcomes : List Answered
outcomes =
    outcome_of_c nothing_read ∷ outcome_of_c five_read ∷ outcome_of_a ∷ outcome_of_c nothing_read ∷ outcome_of_a ∷ outcome_of_c six_read ∷ []

abbrev pub first_ones : List Answered
first_ones = outcome_of_c nothing_read ∷ outcome_of_a ∷ []
