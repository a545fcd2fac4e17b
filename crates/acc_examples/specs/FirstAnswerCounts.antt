-- Of two answers of one store the first one counts: the second, with a changed vote, loses no fast quorum, and the votes of the
-- other stores decide.
use Rattle.std.specs.Prelude.{List, [], ◌∷◌}
use Rattle.acc_txn.specs.declared.outcome.Outcome.{Outcome}
use Rattle.acc_message.specs.declared.answer.ReadAnswer.TheVariants.{Values}
use Rattle.acc_message.specs.declared.message.Message.TheVariants.{PreAccept, PreAcceptOk, Stable, ReadOk, Apply}
use Rattle.acc_message.specs.declared.note.Path.TheVariants.{Fast}
use Rattle.acc_message.specs.declared.note.Note.TheVariants.{Begin, Decide, Outcome as OutcomeNote, Reply}
use Rattle.acc_message.specs.declared.entry.Emitted.{Emitted}
use Rattle.acc_message.specs.Coordinator.{silence}
use Rattle.acc_message.specs.NodeRules.{Act, Begins, Takes}
use Rattle.acc_examples.specs.Clusters.{stamp, writing, key, x, ok, number_cell}
use Rattle.acc_examples.specs.Actors.{a, zero, node_at, store_at}

abbrev pub written : Outcome
written = record { reply = ok []; writes = (key x, number_cell 1) ∷ [] }

abbrev pub acts : List Act
acts =
    Begins 0 (writing x 1)
    ∷ Takes (PreAcceptOk (store_at 1) (node_at 1) a zero (stamp 1 64) [])
    ∷ Takes (PreAcceptOk (store_at 1) (node_at 1) a zero (stamp 2 65) [])
    ∷ Takes (PreAcceptOk (store_at 2) (node_at 1) a zero (stamp 1 64) [])
    ∷ Takes (PreAcceptOk (store_at 3) (node_at 1) a zero (stamp 1 64) [])
    ∷ Takes (ReadOk (store_at 2) (node_at 1) a zero (Values []))
    ∷ []

abbrev pub emitted : List Emitted
emitted =
    record {
      notes = Begin a ∷ [];
      out =
          PreAccept (node_at 1) (store_at 1) a zero (writing x 1)
          ∷ PreAccept (node_at 1) (store_at 2) a zero (writing x 1)
          ∷ PreAccept (node_at 1) (store_at 3) a zero (writing x 1)
          ∷ [];
    }
    ∷ silence
    ∷ silence
    ∷ silence
    ∷ record {
      notes = Decide a (stamp 1 64) Fast [] ∷ [];
      out =
          Stable (node_at 1) (store_at 1) a zero (writing x 1) (stamp 1 64) []
          ∷ Stable (node_at 1) (store_at 2) a zero (writing x 1) (stamp 1 64) []
          ∷ Stable (node_at 1) (store_at 3) a zero (writing x 1) (stamp 1 64) []
          ∷ [];
    }
    ∷ record {
      notes = OutcomeNote a (ok []) ∷ Reply a (ok []) ∷ [];
      out =
          Apply (node_at 1) (store_at 1) a zero (writing x 1) (stamp 1 64) [] written
          ∷ Apply (node_at 1) (store_at 2) a zero (writing x 1) (stamp 1 64) [] written
          ∷ Apply (node_at 1) (store_at 3) a zero (writing x 1) (stamp 1 64) [] written
          ∷ [];
    }
    ∷ []
