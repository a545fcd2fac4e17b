-- Four recoveries of one transaction, each with two answers. The highest ballot is proposed again. Where
-- ballots are equal, a committed record wins over an accepted one, and among accepted ones the first store's. A stable record
-- wins over all others, and is the decision.
use Rattle.std.specs.Prelude.{ℕ, false, List, [], ◌∷◌, Option, None, Some}
use Rattle.acc_stamp.specs.declared.stamps.TxnId.{TxnId}
use Rattle.acc_stamp.specs.declared.stamps.Ballot.{Ballot}
use Rattle.acc_deps.specs.declared.records.Accepted.{Accepted}
use Rattle.acc_deps.specs.declared.records.Settled.{Settled}
use Rattle.acc_message.specs.declared.message.Message.TheVariants.{Accept, Commit, Stable, Recover, RecoverOk}
use Rattle.acc_message.specs.declared.note.Path.TheVariants.{Adopted}
use Rattle.acc_message.specs.declared.note.Note.TheVariants.{Recover as RecoverNote, Decide}
use Rattle.acc_message.specs.declared.entry.Emitted.{Emitted}
use Rattle.acc_message.specs.Coordinator.{silence}
use Rattle.acc_message.specs.NodeRules.{Act, Recovers, Takes}
use Rattle.acc_examples.specs.Clusters.{stamp, ballot, deps_in, writing, x}
use Rattle.acc_examples.specs.Actors.{a, b, c, zero, node_at, store_at}

-- an answer of the store of a node to the recovery at node 3
abbrev pub view_of_store : ℕ → Ballot → Option Accepted → Option Accepted → Option Settled → Act
view_of_store node tried accepted committed stable =
    Takes (RecoverOk (store_at node) (node_at 3) a tried
    (record {
      store = store_at node;
      vote = stamp 1 64;
      vote_deps = [];
      accepted = accepted;
      committed = committed;
      stable = stable;
      superseded = false;
      waits = [];
    }))

-- a record at a ballot, with timestamp 2.65 and one dependency
abbrev pub at_ballot : Ballot → TxnId → Option Accepted
at_ballot tried dependency = Some (record { ballot = tried; t = stamp 2 65; deps = deps_in 1 (dependency ∷ []) })

abbrev pub acts : List Act
acts =
    Recovers a (writing x 1)
    ∷ view_of_store 1 (ballot 1 192) (at_ballot zero b) None None
    ∷ view_of_store 2 (ballot 1 192) (at_ballot (ballot 1 128) c) None None
    ∷ Recovers a (writing x 1)
    ∷ view_of_store 1 (ballot 3 192) (at_ballot zero b) None None
    ∷ view_of_store 2 (ballot 3 192) (at_ballot zero b) (at_ballot zero c) None
    ∷ Recovers a (writing x 1)
    ∷ view_of_store 2 (ballot 4 192) (at_ballot zero b) None None
    ∷ view_of_store 1 (ballot 4 192) (at_ballot zero c) None None
    ∷ Recovers a (writing x 1)
    ∷ view_of_store 1 (ballot 5 192) None (at_ballot (ballot 1 128) b) None
    ∷ view_of_store 2 (ballot 5 192) None None (Some (record { t = stamp 2 65; deps = deps_in 1 (c ∷ []) }))
    ∷ []

abbrev pub asking : Ballot → Emitted
asking tried =
    record {
      notes = RecoverNote a tried ∷ [];
      out =
          Recover (node_at 3) (store_at 1) a tried (writing x 1)
          ∷ Recover (node_at 3) (store_at 2) a tried (writing x 1)
          ∷ Recover (node_at 3) (store_at 3) a tried (writing x 1)
          ∷ [];
    }

abbrev pub proposing : Ballot → Emitted
proposing tried =
    record {
      notes = [];
      out =
          Accept (node_at 3) (store_at 1) a tried (writing x 1) (stamp 2 65) (deps_in 1 (c ∷ []))
          ∷ Accept (node_at 3) (store_at 2) a tried (writing x 1) (stamp 2 65) (deps_in 1 (c ∷ []))
          ∷ Accept (node_at 3) (store_at 3) a tried (writing x 1) (stamp 2 65) (deps_in 1 (c ∷ []))
          ∷ [];
    }

abbrev pub committing : Ballot → Emitted
committing tried =
    record {
      notes = [];
      out =
          Commit (node_at 3) (store_at 1) a tried (writing x 1) (stamp 2 65) (deps_in 1 (c ∷ []))
          ∷ Commit (node_at 3) (store_at 2) a tried (writing x 1) (stamp 2 65) (deps_in 1 (c ∷ []))
          ∷ Commit (node_at 3) (store_at 3) a tried (writing x 1) (stamp 2 65) (deps_in 1 (c ∷ []))
          ∷ [];
    }

abbrev pub deciding : Ballot → Emitted
deciding tried =
    record {
      notes = Decide a (stamp 2 65) Adopted (deps_in 1 (c ∷ [])) ∷ [];
      out =
          Stable (node_at 3) (store_at 1) a tried (writing x 1) (stamp 2 65) (deps_in 1 (c ∷ []))
          ∷ Stable (node_at 3) (store_at 2) a tried (writing x 1) (stamp 2 65) (deps_in 1 (c ∷ []))
          ∷ Stable (node_at 3) (store_at 3) a tried (writing x 1) (stamp 2 65) (deps_in 1 (c ∷ []))
          ∷ [];
    }

abbrev pub emitted : List Emitted
emitted =
    asking (ballot 1 192)
    ∷ silence
    ∷ proposing (ballot 1 192)
    ∷ asking (ballot 3 192)
    ∷ silence
    ∷ committing (ballot 3 192)
    ∷ asking (ballot 4 192)
    ∷ silence
    ∷ proposing (ballot 4 192)
    ∷ asking (ballot 5 192)
    ∷ silence
    ∷ deciding (ballot 5 192)
    ∷ []
