-- Where two messages about one transaction bring different bodies, the one that the store heard first counts: for conflicts of
-- others with it, for its own, and for what it reads.
use Rattle.std.specs.Prelude.{false, List, [], ◌∷◌, None}
use Rattle.acc_stamp.specs.declared.stamps.TxnId.{TxnId}
use Rattle.acc_deps.specs.declared.records.View.{View}
use Rattle.acc_message.specs.declared.answer.ReadAnswer.TheVariants.{Values}
use Rattle.acc_message.specs.declared.message.Message.{Message}
use Rattle.acc_message.specs.declared.message.Message.TheVariants.{PreAccept, PreAcceptOk, Accept, AcceptOk, Stable, ReadOk, Recover, RecoverOk}
use Rattle.acc_message.specs.Taken.{Taken}
use Rattle.acc_message.specs.StoreRules.{replay}
use Rattle.acc_examples.specs.Clusters.{stamp, id, ballot, deps_in, writing, reading, key, x, y}
use Rattle.acc_examples.specs.Actors.{three, a, b, c, zero, node_at, store_at}

-- a later transaction of node 1
abbrev pub d : TxnId
d = id 9 64

abbrev pub heard_of_x : Message
heard_of_x = PreAccept (node_at 1) (store_at 1) a zero (writing x 1)

abbrev pub heard_of_y : Message
heard_of_y = Recover (node_at 3) (store_at 1) a (ballot 1 192) (writing y 1)

abbrev pub messages : List Message
messages =
    heard_of_x
    ∷ heard_of_y
    ∷ PreAccept (node_at 2) (store_at 1) b zero (writing y 2)
    ∷ PreAccept (node_at 3) (store_at 1) c zero (writing x 3)
    ∷ Accept (node_at 3) (store_at 1) a (ballot 1 192) (writing y 1) (stamp 3 65) []
    ∷ PreAccept (node_at 1) (store_at 1) d zero (reading x)
    ∷ Stable (node_at 1) (store_at 1) d zero (reading y) (stamp 9 64) []
    ∷ []

abbrev pub view : View
view =
    record {
      store = store_at 1;
      vote = stamp 1 64;
      vote_deps = [];
      accepted = None;
      committed = None;
      stable = None;
      superseded = false;
      waits = [];
    }

abbrev pub answers : List (List Message)
answers =
    (PreAcceptOk (store_at 1) (node_at 1) a zero (stamp 1 64) [] ∷ [])
    ∷ (RecoverOk (store_at 1) (node_at 3) a (ballot 1 192) view ∷ [])
    ∷ (PreAcceptOk (store_at 1) (node_at 2) b zero (stamp 1 128) [] ∷ [])
    ∷ (PreAcceptOk (store_at 1) (node_at 3) c zero (stamp 1 192) (deps_in 1 (a ∷ [])) ∷ [])
    ∷ (AcceptOk (store_at 1) (node_at 3) a (ballot 1 192) (deps_in 1 (c ∷ [])) ∷ [])
    ∷ (PreAcceptOk (store_at 1) (node_at 1) d zero (stamp 9 64) (deps_in 1 (a ∷ c ∷ [])) ∷ [])
    ∷ (ReadOk (store_at 1) (node_at 1) d zero (Values ((key x, None) ∷ [])) ∷ [])
    ∷ []

-- the store after the first two messages
abbrev pub behind_two : List Taken
behind_two = replay three (store_at 1) (heard_of_y ∷ heard_of_x ∷ [])
