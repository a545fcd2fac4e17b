-- A store hears b, a and c, which conflict. Its vote for a is above what it saw, and is given again unchanged; its dependencies
-- are the older ones alone. The vote for c is above that vote, and an Accept is answered by all below the proposed timestamp.
use Rattle.std.specs.Prelude.{List, [], ◌∷◌}
use Rattle.acc_message.specs.declared.message.Message.{Message}
use Rattle.acc_message.specs.declared.message.Message.TheVariants.{PreAccept, PreAcceptOk, Accept, AcceptOk}
use Rattle.acc_examples.specs.Clusters.{stamp, deps_in, writing, x}
use Rattle.acc_examples.specs.Actors.{a, b, c, zero, node_at, store_at}

abbrev pub messages : List Message
messages =
    PreAccept (node_at 2) (store_at 1) b zero (writing x 2)
    ∷ PreAccept (node_at 1) (store_at 1) a zero (writing x 1)
    ∷ PreAccept (node_at 1) (store_at 1) a zero (writing x 1)
    ∷ PreAccept (node_at 3) (store_at 1) c zero (writing x 3)
    ∷ Accept (node_at 1) (store_at 1) a zero (writing x 1) (stamp 2 65) []
    ∷ []

abbrev pub answers : List (List Message)
answers =
    (PreAcceptOk (store_at 1) (node_at 2) b zero (stamp 1 128) [] ∷ [])
    ∷ (PreAcceptOk (store_at 1) (node_at 1) a zero (stamp 2 65) [] ∷ [])
    ∷ (PreAcceptOk (store_at 1) (node_at 1) a zero (stamp 2 65) [] ∷ [])
    ∷ (PreAcceptOk (store_at 1) (node_at 3) c zero (stamp 3 65) (deps_in 1 (a ∷ b ∷ [])) ∷ [])
    ∷ (AcceptOk (store_at 1) (node_at 1) a zero (deps_in 1 (b ∷ c ∷ [])) ∷ [])
    ∷ []
