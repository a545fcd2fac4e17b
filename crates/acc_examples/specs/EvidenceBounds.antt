-- What is not evidence against b: an older a that was accepted, and is stable, at a timestamp below that of b; and a younger c
-- that was accepted above b's timestamp with b among its dependencies. b is neither superseded nor does it wait.
use Rattle.std.specs.Prelude.{List, [], ◌∷◌, false, None}
use Rattle.acc_stamp.specs.declared.stamps.Ballot.{Ballot}
use Rattle.acc_message.specs.declared.answer.ReadAnswer.TheVariants.{Values}
use Rattle.acc_message.specs.declared.message.Message.{Message}
use Rattle.acc_message.specs.declared.message.Message.TheVariants.{Accept, AcceptOk, Stable, ReadOk, Recover, RecoverOk}
use Rattle.acc_examples.specs.Clusters.{stamp, ballot, deps_in, writing, x}
use Rattle.acc_examples.specs.Actors.{a, b, c, zero, node_at, store_at}

abbrev pub messages : List Message
messages =
    Accept (node_at 1) (store_at 1) a zero (writing x 1) (stamp 1 64) []
    ∷ Accept (node_at 3) (store_at 1) c zero (writing x 3) (stamp 2 193) (deps_in 1 (b ∷ []))
    ∷ Recover (node_at 3) (store_at 1) b (ballot 2 192) (writing x 2)
    ∷ Stable (node_at 1) (store_at 1) a zero (writing x 1) (stamp 1 64) []
    ∷ Recover (node_at 3) (store_at 1) b (ballot 3 192) (writing x 2)
    ∷ []

abbrev pub revealed : Ballot → Message
revealed tried =
    RecoverOk (store_at 1) (node_at 3) b tried
    (record {
      store = store_at 1;
      vote = stamp 3 65;
      vote_deps = deps_in 1 (a ∷ []);
      accepted = None;
      committed = None;
      stable = None;
      superseded = false;
      waits = [];
    })

abbrev pub answers : List (List Message)
answers =
    (AcceptOk (store_at 1) (node_at 1) a zero [] ∷ [])
    ∷ (AcceptOk (store_at 1) (node_at 3) c zero (deps_in 1 (a ∷ [])) ∷ [])
    ∷ (revealed (ballot 2 192) ∷ [])
    ∷ (ReadOk (store_at 1) (node_at 1) a zero (Values []) ∷ [])
    ∷ (revealed (ballot 3 192) ∷ [])
    ∷ []
