-- A clock draws above all that its node drew, and above all that it saw since its last restart. A greater ballot ends the
-- attempt, and the first coordinator adopts a decision that a store tells.
use Rattle.std.specs.Prelude.{List, [], ◌∷◌}
use Rattle.acc_message.specs.declared.message.Message.TheVariants.{PreAccept, Stable, Recover, Nack, Decided}
use Rattle.acc_message.specs.declared.note.Path.TheVariants.{Adopted}
use Rattle.acc_message.specs.declared.note.Note.TheVariants.{Begin as BeginNote, Recover as RecoverNote, Ended, Decide}
use Rattle.acc_message.specs.declared.entry.Emitted.{Emitted}
use Rattle.acc_message.specs.Coordinator.{silence}
use Rattle.acc_message.specs.NodeRules.{Act, Begins, Recovers, Takes, Restarts}
use Rattle.acc_examples.specs.Clusters.{stamp, id, ballot, deps_in, writing, x}
use Rattle.acc_examples.specs.Actors.{a, b, zero, node_at, store_at}

abbrev pub acts : List Act
acts =
    Takes (Nack (store_at 1) (node_at 1) a zero (ballot 9 192))
    ∷ Restarts
    ∷ Begins 0 (writing x 1)
    ∷ Takes (Nack (store_at 1) (node_at 1) a zero (ballot 5 192))
    ∷ Recovers a (writing x 1)
    ∷ Restarts
    ∷ Begins 1 (writing x 2)
    ∷ Takes (Decided (store_at 2) (node_at 1) (id 7 64) zero (stamp 7 64) (deps_in 1 (b ∷ [])))
    ∷ Takes (Nack (store_at 1) (node_at 1) (id 7 64) zero (ballot 9 192))
    ∷ []

abbrev pub emitted : List Emitted
emitted =
    silence
    ∷ silence
    ∷ record {
      notes = BeginNote a ∷ [];
      out =
          PreAccept (node_at 1) (store_at 1) a zero (writing x 1)
          ∷ PreAccept (node_at 1) (store_at 2) a zero (writing x 1)
          ∷ PreAccept (node_at 1) (store_at 3) a zero (writing x 1)
          ∷ [];
    }
    ∷ record { notes = Ended a zero (ballot 5 192) ∷ []; out = [] }
    ∷ record {
      notes = RecoverNote a (ballot 6 64) ∷ [];
      out =
          Recover (node_at 1) (store_at 1) a (ballot 6 64) (writing x 1)
          ∷ Recover (node_at 1) (store_at 2) a (ballot 6 64) (writing x 1)
          ∷ Recover (node_at 1) (store_at 3) a (ballot 6 64) (writing x 1)
          ∷ [];
    }
    ∷ silence
    ∷ record {
      notes = BeginNote (id 7 64) ∷ [];
      out =
          PreAccept (node_at 1) (store_at 1) (id 7 64) zero (writing x 2)
          ∷ PreAccept (node_at 1) (store_at 2) (id 7 64) zero (writing x 2)
          ∷ PreAccept (node_at 1) (store_at 3) (id 7 64) zero (writing x 2)
          ∷ [];
    }
    ∷ record {
      notes = Decide (id 7 64) (stamp 7 64) Adopted (deps_in 1 (b ∷ [])) ∷ [];
      out =
          Stable (node_at 1) (store_at 1) (id 7 64) zero (writing x 2) (stamp 7 64) (deps_in 1 (b ∷ []))
          ∷ Stable (node_at 1) (store_at 2) (id 7 64) zero (writing x 2) (stamp 7 64) (deps_in 1 (b ∷ []))
          ∷ Stable (node_at 1) (store_at 3) (id 7 64) zero (writing x 2) (stamp 7 64) (deps_in 1 (b ∷ []))
          ∷ [];
    }
    ∷ silence
    ∷ []
