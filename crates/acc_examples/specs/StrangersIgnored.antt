-- An answer of a store that isn't one of the transaction's counts for nothing: neither its vote with its dependencies, nor the
-- outcome that it claims to know.
use Rattle.std.specs.Prelude.{List, [], ◌∷◌, map}
use Rattle.acc_stamp.specs.declared.actors.Actor.{Actor}
use Rattle.acc_stamp.specs.Actor.{actor_of}
use Rattle.acc_txn.specs.declared.outcome.Outcome.{Outcome}
use Rattle.acc_message.specs.declared.answer.ReadAnswer.TheVariants.{Values, Known}
use Rattle.acc_message.specs.declared.message.Message.TheVariants.{PreAccept, PreAcceptOk, Stable, ReadOk, Apply}
use Rattle.acc_message.specs.declared.note.Path.TheVariants.{Fast}
use Rattle.acc_message.specs.declared.note.Note.TheVariants.{Begin, Decide, Outcome as OutcomeNote, Reply}
use Rattle.acc_message.specs.declared.entry.Emitted.{Emitted}
use Rattle.acc_message.specs.Coordinator.{silence}
use Rattle.acc_message.specs.NodeRules.{Act, Begins, Takes}
use Rattle.acc_examples.specs.Clusters.{stamp, deps_in, writing, key, alice, ok, number_cell}
use Rattle.acc_examples.specs.Actors.{a, b, zero, node_at, store_at}

-- the transaction's key lies in the first of two shards, and this is a store of the second
abbrev pub stranger : Actor
stranger = actor_of 1 2

abbrev pub written : Outcome
written = record { reply = ok []; writes = (key alice, number_cell 1) ∷ [] }

abbrev pub claimed : Outcome
claimed = record { reply = ok (number_cell 9 ∷ []); writes = [] }

abbrev pub acts : List Act
acts =
    Begins 0 (writing alice 1)
    ∷ Takes (PreAcceptOk stranger (node_at 1) a zero (stamp 5 66) (deps_in 2 (b ∷ [])))
    ∷ Takes (PreAcceptOk (store_at 1) (node_at 1) a zero (stamp 1 64) [])
    ∷ Takes (PreAcceptOk (store_at 2) (node_at 1) a zero (stamp 1 64) [])
    ∷ Takes (PreAcceptOk (store_at 3) (node_at 1) a zero (stamp 1 64) [])
    ∷ Takes (ReadOk stranger (node_at 1) a zero (Known claimed))
    ∷ Takes (ReadOk (store_at 2) (node_at 1) a zero (Values []))
    ∷ []

abbrev pub all : List Actor
all = store_at 1 ∷ store_at 2 ∷ store_at 3 ∷ []

abbrev pub emitted : List Emitted
emitted =
    record { notes = Begin a ∷ []; out = map (λ store. PreAccept (node_at 1) store a zero (writing alice 1)) all }
    ∷ silence
    ∷ silence
    ∷ silence
    ∷ record {
      notes = Decide a (stamp 1 64) Fast [] ∷ [];
      out = map (λ store. Stable (node_at 1) store a zero (writing alice 1) (stamp 1 64) []) all;
    }
    ∷ silence
    ∷ record {
      notes = OutcomeNote a (ok []) ∷ Reply a (ok []) ∷ [];
      out = map (λ store. Apply (node_at 1) store a zero (writing alice 1) (stamp 1 64) [] written) all;
    }
    ∷ []
