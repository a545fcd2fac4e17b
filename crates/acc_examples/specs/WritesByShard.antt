-- A store of the second shard applies the writes of an outcome to keys of its own shard alone.
use Rattle.std.specs.Prelude.{List, [], ◌∷◌, Option, None}
use Rattle.acc_value.specs.declared.value.Value.{Value}
use Rattle.acc_value.specs.declared.key.Key.{Key}
use Rattle.acc_txn.specs.declared.outcome.Outcome.{Outcome}
use Rattle.acc_message.specs.declared.message.Message.TheVariants.{Stable, Apply}
use Rattle.acc_message.specs.Taken.{Taken}
use Rattle.acc_message.specs.StoreRules.{replay}
use Rattle.acc_examples.specs.Clusters.{stamp, writing_both, key, alice, zoe, ok, number_cell}
use Rattle.acc_examples.specs.Actors.{a, zero, node_at}
use Rattle.acc_examples.specs.ConflictByShard.{two_shards, own}

abbrev pub written : Outcome
written = record { reply = ok []; writes = (key alice, number_cell 1) ∷ (key zoe, number_cell 2) ∷ [] }

abbrev pub past : List Taken
past =
    replay two_shards own
    (Apply (node_at 1) own a zero (writing_both alice 1 zoe 2) (stamp 1 64) [] written
    ∷ Stable (node_at 1) own a zero (writing_both alice 1 zoe 2) (stamp 1 64) []
    ∷ [])

abbrev pub keys : List Key
keys = key alice ∷ key zoe ∷ []

abbrev pub cells : List (Option Value)
cells = None ∷ number_cell 2 ∷ []
