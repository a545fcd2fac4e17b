-- What a store promises: a granted Commit, Recover or Accept is a promise. A smaller ballot is refused, and an equal one only
-- where it is that of a Recover; a PreAccept is refused by any promise.
use Rattle.std.specs.Prelude.{false, List, [], ◌∷◌, None, Some}
use Rattle.acc_deps.specs.declared.records.View.{View}
use Rattle.acc_txn.specs.declared.parts.BodyParts.{BodyParts}
use Rattle.acc_message.specs.declared.message.Message.{Message}
use Rattle.acc_message.specs.declared.message.Message.TheVariants.{PreAccept, Accept, AcceptOk, Commit, CommitOk, Recover, RecoverOk, Nack}
use Rattle.acc_examples.specs.Clusters.{stamp, ballot, writing, x}
use Rattle.acc_examples.specs.Actors.{a, zero, node_at, store_at}

abbrev pub writes_x : BodyParts
writes_x = writing x 1

abbrev pub messages : List Message
messages =
    Commit (node_at 3) (store_at 1) a (ballot 2 192) writes_x (stamp 1 64) []
    ∷ Accept (node_at 2) (store_at 1) a (ballot 1 128) writes_x (stamp 1 64) []
    ∷ PreAccept (node_at 1) (store_at 1) a zero writes_x
    ∷ Recover (node_at 3) (store_at 1) a (ballot 2 192) writes_x
    ∷ Recover (node_at 2) (store_at 1) a (ballot 3 128) writes_x
    ∷ Accept (node_at 2) (store_at 1) a (ballot 3 128) writes_x (stamp 4 65) []
    ∷ Commit (node_at 3) (store_at 1) a (ballot 2 192) writes_x (stamp 1 64) []
    ∷ []

abbrev pub view : View
view =
    record {
      store = store_at 1;
      vote = stamp 1 64;
      vote_deps = [];
      accepted = None;
      committed = Some (record { ballot = ballot 2 192; t = stamp 1 64; deps = [] });
      stable = None;
      superseded = false;
      waits = [];
    }

abbrev pub answers : List (List Message)
answers =
    (CommitOk (store_at 1) (node_at 3) a (ballot 2 192) ∷ [])
    ∷ (Nack (store_at 1) (node_at 2) a (ballot 1 128) (ballot 2 192) ∷ [])
    ∷ (Nack (store_at 1) (node_at 1) a zero (ballot 2 192) ∷ [])
    ∷ (Nack (store_at 1) (node_at 3) a (ballot 2 192) (ballot 2 192) ∷ [])
    ∷ (RecoverOk (store_at 1) (node_at 2) a (ballot 3 128) view ∷ [])
    ∷ (AcceptOk (store_at 1) (node_at 2) a (ballot 3 128) [] ∷ [])
    ∷ (Nack (store_at 1) (node_at 3) a (ballot 2 192) (ballot 3 128) ∷ [])
    ∷ []
