-- A recovery of b waits for the older a, which has a timestamp above that of b, also where a is committed. Once a is stable it
-- is awaited no longer; it is stable without b, and so rules out that b was decided at its own timestamp.
use Rattle.std.specs.Prelude.{List, [], ◌∷◌, true, false, None}
use Rattle.acc_message.specs.declared.answer.ReadAnswer.TheVariants.{Values}
use Rattle.acc_message.specs.declared.message.Message.{Message}
use Rattle.acc_message.specs.declared.message.Message.TheVariants.{Accept, AcceptOk, Commit, CommitOk, Stable, ReadOk, Recover, RecoverOk}
use Rattle.acc_examples.specs.Clusters.{stamp, ballot, deps_in, writing, x}
use Rattle.acc_examples.specs.Actors.{a, b, zero, node_at, store_at}

abbrev pub messages : List Message
messages =
    Accept (node_at 1) (store_at 1) a zero (writing x 1) (stamp 2 65) []
    ∷ Commit (node_at 1) (store_at 1) a zero (writing x 1) (stamp 2 65) []
    ∷ Recover (node_at 3) (store_at 1) b (ballot 1 192) (writing x 2)
    ∷ Stable (node_at 1) (store_at 1) a zero (writing x 1) (stamp 2 65) []
    ∷ Recover (node_at 3) (store_at 1) b (ballot 2 192) (writing x 2)
    ∷ []

abbrev pub answers : List (List Message)
answers =
    (AcceptOk (store_at 1) (node_at 1) a zero [] ∷ [])
    ∷ (CommitOk (store_at 1) (node_at 1) a zero ∷ [])
    ∷ (RecoverOk (store_at 1) (node_at 3) b (ballot 1 192)
    (record {
      store = store_at 1;
      vote = stamp 3 65;
      vote_deps = deps_in 1 (a ∷ []);
      accepted = None;
      committed = None;
      stable = None;
      superseded = false;
      waits = a ∷ [];
    }) ∷ [])
    ∷ (ReadOk (store_at 1) (node_at 1) a zero (Values []) ∷ [])
    ∷ (RecoverOk (store_at 1) (node_at 3) b (ballot 2 192)
    (record {
      store = store_at 1;
      vote = stamp 3 65;
      vote_deps = deps_in 1 (a ∷ []);
      accepted = None;
      committed = None;
      stable = None;
      superseded = true;
      waits = [];
    }) ∷ [])
    ∷ []
