-- The slow path: a changed vote loses the fast quorum, the greatest vote is proposed with the union of the dependencies, and a
-- majority that accepted it is followed by Commit with the dependencies of their answers too, before anything is decided.
use Rattle.std.specs.Prelude.{List, [], ◌∷◌}
use Rattle.acc_message.specs.declared.message.Message.TheVariants.{PreAccept, PreAcceptOk, Accept, AcceptOk, Commit, CommitOk, Stable}
use Rattle.acc_message.specs.declared.note.Path.TheVariants.{Slow}
use Rattle.acc_message.specs.declared.note.Note.TheVariants.{Begin, Decide}
use Rattle.acc_message.specs.declared.entry.Emitted.{Emitted}
use Rattle.acc_message.specs.Coordinator.{silence}
use Rattle.acc_message.specs.NodeRules.{Act, Begins, Takes}
use Rattle.acc_examples.specs.Clusters.{stamp, deps_in, writing, x}
use Rattle.acc_examples.specs.Actors.{a, b, c, zero, node_at, store_at}

abbrev pub acts : List Act
acts =
    Begins 0 (writing x 1)
    ∷ Takes (PreAcceptOk (store_at 1) (node_at 1) a zero (stamp 2 65) (deps_in 1 (b ∷ [])))
    ∷ Takes (PreAcceptOk (store_at 2) (node_at 1) a zero (stamp 1 64) [])
    ∷ Takes (AcceptOk (store_at 2) (node_at 1) a zero [])
    ∷ Takes (AcceptOk (store_at 3) (node_at 1) a zero (deps_in 1 (c ∷ [])))
    ∷ Takes (CommitOk (store_at 1) (node_at 1) a zero)
    ∷ Takes (CommitOk (store_at 3) (node_at 1) a zero)
    ∷ []

abbrev pub emitted : List Emitted
emitted =
    record {
      notes = Begin a ∷ [];
      out =
          PreAccept (node_at 1) (store_at 1) a zero (writing x 1)
          ∷ PreAccept (node_at 1) (store_at 2) a zero (writing x 1)
          ∷ PreAccept (node_at 1) (store_at 3) a zero (writing x 1)
          ∷ [];
    }
    ∷ silence
    ∷ record {
      notes = [];
      out =
          Accept (node_at 1) (store_at 1) a zero (writing x 1) (stamp 2 65) (deps_in 1 (b ∷ []))
          ∷ Accept (node_at 1) (store_at 2) a zero (writing x 1) (stamp 2 65) (deps_in 1 (b ∷ []))
          ∷ Accept (node_at 1) (store_at 3) a zero (writing x 1) (stamp 2 65) (deps_in 1 (b ∷ []))
          ∷ [];
    }
    ∷ silence
    ∷ record {
      notes = [];
      out =
          Commit (node_at 1) (store_at 1) a zero (writing x 1) (stamp 2 65) (deps_in 1 (b ∷ c ∷ []))
          ∷ Commit (node_at 1) (store_at 2) a zero (writing x 1) (stamp 2 65) (deps_in 1 (b ∷ c ∷ []))
          ∷ Commit (node_at 1) (store_at 3) a zero (writing x 1) (stamp 2 65) (deps_in 1 (b ∷ c ∷ []))
          ∷ [];
    }
    ∷ silence
    ∷ record {
      notes = Decide a (stamp 2 65) Slow (deps_in 1 (b ∷ c ∷ [])) ∷ [];
      out =
          Stable (node_at 1) (store_at 1) a zero (writing x 1) (stamp 2 65) (deps_in 1 (b ∷ c ∷ []))
          ∷ Stable (node_at 1) (store_at 2) a zero (writing x 1) (stamp 2 65) (deps_in 1 (b ∷ c ∷ []))
          ∷ Stable (node_at 1) (store_at 3) a zero (writing x 1) (stamp 2 65) (deps_in 1 (b ∷ c ∷ []))
          ∷ [];
    }
    ∷ []
