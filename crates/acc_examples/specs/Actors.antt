-- Worked examples of one store and of one node: what they emit, step after step, the oldest first.
use Rattle.std.specs.Prelude.{ℕ, List, [], ◌∷◌}
use Rattle.acc_stamp.specs.declared.stamps.TxnId.{TxnId}
use Rattle.acc_stamp.specs.declared.stamps.Ballot.{Ballot}
use Rattle.acc_stamp.specs.declared.actors.Actor.{Actor}
use Rattle.acc_stamp.specs.Actor.{actor_of, shard_of}
use Rattle.acc_stamp.specs.Stamp.{zero_ballot}
use Rattle.acc_topology.specs.Layout.{Layout}
use Rattle.acc_message.specs.declared.message.Message.{Message}
use Rattle.acc_message.specs.declared.entry.Emitted.{Emitted}
use Rattle.acc_message.specs.Taken.{Taken}
use Rattle.acc_message.specs.StoreRules.{store_answer, waiters_of}
use Rattle.acc_message.specs.NodeRules.{Act, Deed, node_emits}
use Rattle.acc_examples.specs.Clusters.{id, last_shard, layout}

-- what a store sends for each of these messages
abbrev pub sent_after : Layout → Actor → List Taken → List Message → List (List Message)
sent_after layout own past [] = []
sent_after layout own past (m ∷ ms) =
    let sent : List Message = store_answer layout own past m in
    sent ∷ sent_after layout own (record { message = m; sent = sent } ∷ past) ms

abbrev pub sent_by : Layout → Actor → List Message → List (List Message)
sent_by layout own messages = sent_after layout own [] messages

-- the waiters of a transaction at a store, before each of these messages and after the last
abbrev pub waiting_after : Layout → Actor → TxnId → List Taken → List Message → List (List Ballot)
waiting_after layout own x past [] = waiters_of (shard_of own) past x ∷ []
waiting_after layout own x past (m ∷ ms) =
    let now : List Taken = record { message = m; sent = store_answer layout own past m } ∷ past in
    waiters_of (shard_of own) past x ∷ waiting_after layout own x now ms

abbrev pub waiting_at : Layout → Actor → TxnId → List Message → List (List Ballot)
waiting_at layout own x messages = waiting_after layout own x [] messages

-- what a node whose clock starts at 0 emits for each of these
abbrev pub emitted_after : Layout → ℕ → List Deed → List Act → List Emitted
emitted_after layout node past [] = []
emitted_after layout node past (act ∷ acts) =
    let emitted : Emitted = node_emits layout node 0 past act in
    emitted ∷ emitted_after layout node (record { act = act; emitted = emitted } ∷ past) acts

abbrev pub emitted_by_node : Layout → ℕ → List Act → List Emitted
emitted_by_node layout node acts = emitted_after layout node [] acts

-- ---- three nodes with a store each

abbrev pub three : Layout
three = layout (1 ∷ 2 ∷ 3 ∷ []) (last_shard (1 ∷ 2 ∷ 3 ∷ []) ∷ [])

abbrev pub node_at : ℕ → Actor
node_at node = actor_of node 0

abbrev pub store_at : ℕ → Actor
store_at node = actor_of node 1

-- transactions begun at nodes 1, 2 and 3
abbrev pub a : TxnId
a = id 1 64

abbrev pub b : TxnId
b = id 1 128

abbrev pub c : TxnId
c = id 1 192

abbrev pub zero : Ballot
zero = zero_ballot
