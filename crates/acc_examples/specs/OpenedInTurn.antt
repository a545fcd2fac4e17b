-- Of three transactions on one key, b waits for a and c for both. Applying a opens b for its two waiters, in the order of their
-- ballots, and then c, each with the cells of its turn. A Stable that comes after its transaction was opened doesn't wait: it
-- gets the cells of that moment, and later, after the Apply, the outcome.
use Rattle.std.specs.Prelude.{List, [], ◌∷◌}
use Rattle.acc_stamp.specs.declared.stamps.Ballot.{Ballot}
use Rattle.acc_txn.specs.declared.parts.BodyParts.{BodyParts}
use Rattle.acc_txn.specs.declared.parts.Select.TheVariants.{Names}
use Rattle.acc_txn.specs.declared.outcome.Outcome.{Outcome}
use Rattle.acc_message.specs.declared.answer.ReadAnswer.TheVariants.{Values, Known}
use Rattle.acc_message.specs.declared.message.Message.{Message}
use Rattle.acc_message.specs.declared.message.Message.TheVariants.{Stable, ReadOk, Apply}
use Rattle.acc_examples.specs.Clusters.{stamp, ballot, deps_in, writing, reading, body, binding, setting, number, key, x, p, ok, number_cell}
use Rattle.acc_examples.specs.Actors.{a, b, c, zero, node_at, store_at}

-- LET p = (SELECT v FROM t WHERE k = 'x'); SELECT p.v; UPDATE t SET v = 9 WHERE k = 'x'
abbrev pub exchanging : BodyParts
exchanging = body (binding p x ∷ []) (Names (0 ∷ [])) [] (setting x (number 9 ∷ []) ∷ [])

abbrev pub written : Outcome
written = record { reply = ok []; writes = (key x, number_cell 7) ∷ [] }

abbrev pub exchanged : Outcome
exchanged = record { reply = ok (number_cell 7 ∷ []); writes = (key x, number_cell 9) ∷ [] }

abbrev pub messages : List Message
messages =
    Stable (node_at 3) (store_at 1) c zero (reading x) (stamp 1 192) (deps_in 1 (a ∷ b ∷ []))
    ∷ Stable (node_at 3) (store_at 1) b (ballot 1 192) exchanging (stamp 1 128) (deps_in 1 (a ∷ []))
    ∷ Stable (node_at 2) (store_at 1) b zero exchanging (stamp 1 128) (deps_in 1 (a ∷ []))
    ∷ Apply (node_at 2) (store_at 1) b zero exchanging (stamp 1 128) (deps_in 1 (a ∷ [])) exchanged
    ∷ Stable (node_at 1) (store_at 1) a zero (writing x 7) (stamp 1 64) []
    ∷ Apply (node_at 1) (store_at 1) a zero (writing x 7) (stamp 1 64) [] written
    ∷ Stable (node_at 1) (store_at 1) c (ballot 2 64) (reading x) (stamp 1 192) (deps_in 1 (a ∷ b ∷ []))
    ∷ Stable (node_at 1) (store_at 1) b (ballot 2 64) exchanging (stamp 1 128) (deps_in 1 (a ∷ []))
    ∷ []

abbrev pub answers : List (List Message)
answers =
    []
    ∷ []
    ∷ []
    ∷ []
    ∷ (ReadOk (store_at 1) (node_at 1) a zero (Values []) ∷ [])
    ∷ (ReadOk (store_at 1) (node_at 2) b zero (Values ((key x, number_cell 7) ∷ []))
    ∷ ReadOk (store_at 1) (node_at 3) b (ballot 1 192) (Values ((key x, number_cell 7) ∷ []))
    ∷ ReadOk (store_at 1) (node_at 3) c zero (Values ((key x, number_cell 9) ∷ []))
    ∷ [])
    ∷ (ReadOk (store_at 1) (node_at 1) c (ballot 2 64) (Values ((key x, number_cell 9) ∷ [])) ∷ [])
    ∷ (ReadOk (store_at 1) (node_at 1) b (ballot 2 64) (Known exchanged) ∷ [])
    ∷ []

-- the waiters of b, before each message and after the last
abbrev pub waiting : List (List Ballot)
waiting =
    []
    ∷ []
    ∷ (ballot 1 192 ∷ [])
    ∷ (zero ∷ ballot 1 192 ∷ [])
    ∷ (zero ∷ ballot 1 192 ∷ [])
    ∷ (zero ∷ ballot 1 192 ∷ [])
    ∷ []
    ∷ []
    ∷ []
    ∷ []
