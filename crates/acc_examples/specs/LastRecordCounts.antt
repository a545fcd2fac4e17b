-- Of two Accepts the last one that was granted is the accepted record, a smaller ballot gets a Nack, and of two stable records
-- the first one stays. A stable transaction is answered by Decided.
use Rattle.std.specs.Prelude.{List, [], ◌∷◌, false, None, Some}
use Rattle.acc_message.specs.declared.answer.ReadAnswer.TheVariants.{Values}
use Rattle.acc_message.specs.declared.message.Message.{Message}
use Rattle.acc_message.specs.declared.message.Message.TheVariants.{PreAccept, Accept, AcceptOk, Commit, Stable, ReadOk, Recover, RecoverOk, Nack, Decided}
use Rattle.acc_examples.specs.Clusters.{stamp, ballot, deps_in, writing, x}
use Rattle.acc_examples.specs.Actors.{a, b, zero, node_at, store_at}

abbrev pub messages : List Message
messages =
    Accept (node_at 1) (store_at 1) a zero (writing x 1) (stamp 2 65) []
    ∷ Accept (node_at 3) (store_at 1) a (ballot 1 192) (writing x 1) (stamp 1 64) (deps_in 1 (b ∷ []))
    ∷ Commit (node_at 2) (store_at 1) a (ballot 1 128) (writing x 1) (stamp 2 65) []
    ∷ Recover (node_at 3) (store_at 1) a (ballot 1 192) (writing x 1)
    ∷ PreAccept (node_at 1) (store_at 1) a zero (writing x 1)
    ∷ Recover (node_at 2) (store_at 1) a (ballot 2 128) (writing x 1)
    ∷ Stable (node_at 2) (store_at 1) a (ballot 2 128) (writing x 1) (stamp 1 64) []
    ∷ Stable (node_at 3) (store_at 1) a (ballot 1 192) (writing x 1) (stamp 1 64) (deps_in 1 (b ∷ []))
    ∷ PreAccept (node_at 1) (store_at 1) a zero (writing x 1)
    ∷ Commit (node_at 3) (store_at 1) a (ballot 1 192) (writing x 1) (stamp 1 64) []
    ∷ []

abbrev pub answers : List (List Message)
answers =
    (AcceptOk (store_at 1) (node_at 1) a zero [] ∷ [])
    ∷ (AcceptOk (store_at 1) (node_at 3) a (ballot 1 192) [] ∷ [])
    ∷ (Nack (store_at 1) (node_at 2) a (ballot 1 128) (ballot 1 192) ∷ [])
    ∷ (Nack (store_at 1) (node_at 3) a (ballot 1 192) (ballot 1 192) ∷ [])
    ∷ (Nack (store_at 1) (node_at 1) a zero (ballot 1 192) ∷ [])
    ∷ (RecoverOk (store_at 1) (node_at 2) a (ballot 2 128)
    (record {
      store = store_at 1;
      vote = stamp 1 64;
      vote_deps = [];
      accepted = Some (record { ballot = ballot 1 192; t = stamp 1 64; deps = deps_in 1 (b ∷ []) });
      committed = None;
      stable = None;
      superseded = false;
      waits = [];
    }) ∷ [])
    ∷ (ReadOk (store_at 1) (node_at 2) a (ballot 2 128) (Values []) ∷ [])
    ∷ (ReadOk (store_at 1) (node_at 3) a (ballot 1 192) (Values []) ∷ [])
    ∷ (Decided (store_at 1) (node_at 1) a zero (stamp 1 64) [] ∷ [])
    ∷ (Decided (store_at 1) (node_at 3) a (ballot 1 192) (stamp 1 64) [] ∷ [])
    ∷ []
