-- A store has accepted b without a, and b is stable there with a. What it accepted counts on: a is superseded.
use Rattle.std.specs.Prelude.{List, [], ◌∷◌, true, None}
use Rattle.acc_message.specs.declared.message.Message.{Message}
use Rattle.acc_message.specs.declared.message.Message.TheVariants.{Accept, AcceptOk, Stable, Recover, RecoverOk}
use Rattle.acc_examples.specs.Clusters.{stamp, ballot, deps_in, writing, x}
use Rattle.acc_examples.specs.Actors.{a, b, zero, node_at, store_at}

abbrev pub messages : List Message
messages =
    Accept (node_at 2) (store_at 1) b zero (writing x 2) (stamp 1 128) []
    ∷ Stable (node_at 2) (store_at 1) b zero (writing x 2) (stamp 1 128) (deps_in 1 (a ∷ []))
    ∷ Recover (node_at 3) (store_at 1) a (ballot 1 192) (writing x 1)
    ∷ []

abbrev pub answers : List (List Message)
answers =
    (AcceptOk (store_at 1) (node_at 2) b zero [] ∷ [])
    ∷ []
    ∷ (RecoverOk (store_at 1) (node_at 3) a (ballot 1 192)
    (record {
      store = store_at 1;
      vote = stamp 2 65;
      vote_deps = [];
      accepted = None;
      committed = None;
      stable = None;
      superseded = true;
      waits = [];
    }) ∷ [])
    ∷ []
