-- The items of the transfer between two shards, after its first two transactions and after its third.
use Rattle.std.proofs.Common.{ℕ, false, List, [], ◌∷◌, ◌++◌, Option, map}
use Rattle.acc_value.specs.declared.value.Value.{Value}
use Rattle.acc_stamp.specs.declared.stamps.TxnId.{TxnId}
use Rattle.acc_stamp.specs.declared.actors.Actor.{Actor}
use Rattle.acc_stamp.specs.Actor.{actor_of}
use Rattle.acc_stamp.specs.Stamp.{zero_ballot}
use Rattle.acc_deps.specs.declared.shards.ShardDeps.{ShardDeps}
use Rattle.acc_value.specs.declared.key.Key.{Key}
use Rattle.acc_txn.specs.declared.parts.BodyParts.{BodyParts}
use Rattle.acc_txn.specs.declared.outcome.Outcome.{Outcome as Result}
use Rattle.acc_message.specs.declared.answer.ReadAnswer.TheVariants.{Values}
use Rattle.acc_message.specs.declared.message.Message.{Message}
use Rattle.acc_message.specs.declared.message.Message.TheVariants.{PreAccept, PreAcceptOk, Stable, ReadOk, Apply}
use Rattle.acc_message.specs.declared.note.Path.TheVariants.{Fast}
use Rattle.acc_message.specs.declared.note.Note.{Note}
use Rattle.acc_message.specs.declared.note.Note.TheVariants.{Begin as BeginNote, Decide, Outcome, Reply as ReplyNote}
use Rattle.acc_message.specs.declared.entry.Event.TheVariants.{Begin as BeginEvent, Message as Takes}
use Rattle.acc_message.specs.declared.item.Item.{Item}
use Rattle.acc_message.specs.declared.item.Item.TheVariants.{Step}
use Rattle.acc_examples.specs.Clusters.{id, deps_in, key, alice, zoe, writing, transfer, ok, number_cell}

abbrev node : Actor
node = actor_of 1 0

abbrev stores_a : List Actor
stores_a = actor_of 1 1 ∷ actor_of 2 1 ∷ actor_of 3 1 ∷ []

abbrev stores_b : List Actor
stores_b = actor_of 1 2 ∷ actor_of 2 2 ∷ actor_of 3 2 ∷ []

abbrev stores_c : List Actor
stores_c = stores_a ++ stores_b

abbrev id_a : TxnId
id_a = id 1 64

abbrev id_b : TxnId
id_b = id 2 64

abbrev id_c : TxnId
id_c = id 3 64

abbrev deps_c : List ShardDeps
deps_c = deps_in 1 (id_a ∷ []) ++ deps_in 2 (id_b ∷ [])

abbrev body_a : BodyParts
body_a = writing alice 100

abbrev body_b : BodyParts
body_b = writing zoe 5

abbrev body_c : BodyParts
body_c = transfer alice zoe 30

abbrev read_alice : List (Key × Option Value)
read_alice = (key alice, number_cell 100) ∷ []

abbrev read_zoe : List (Key × Option Value)
read_zoe = (key zoe, number_cell 5) ∷ []

abbrev outcome_a : Result
outcome_a = record { reply = ok []; writes = read_alice }

abbrev outcome_b : Result
outcome_b = record { reply = ok []; writes = read_zoe }

abbrev outcome_c : Result
outcome_c =
    record {
      reply = ok (number_cell 100 ∷ number_cell 5 ∷ []);
      writes = (key alice, number_cell 70) ∷ (key zoe, number_cell 35) ∷ [];
    }

-- the node begins a transaction, an actor takes a message, and the node takes one and notes something
abbrev begun : ℕ → TxnId → List Message → Item
begun txn x out = Step (record { actor = node; event = BeginEvent txn; emitted = record { notes = BeginNote x ∷ []; out = out }; lost = false })

abbrev took : Actor → ℕ → List Message → Item
took a number out = Step (record { actor = a; event = Takes number; emitted = record { notes = []; out = out }; lost = false })

abbrev noted : ℕ → List Note → List Message → Item
noted number notes out = Step (record { actor = node; event = Takes number; emitted = record { notes = notes; out = out }; lost = false })

unfoldable pub after_two : List Item
after_two =
    took (actor_of 3 2) 29 []
    ∷ took (actor_of 2 2) 28 []
    ∷ took (actor_of 1 2) 27 []
    ∷ took node 26 []
    ∷ took node 25 []
    ∷ noted 24 (Outcome id_b outcome_b.reply ∷ ReplyNote id_b outcome_b.reply ∷ []) (map (λ s. Apply node s id_b zero_ballot body_b id_b.0 [] outcome_b) stores_b)
    ∷ took (actor_of 3 2) 23 (ReadOk (actor_of 3 2) node id_b zero_ballot (Values []) ∷ [])
    ∷ took (actor_of 2 2) 22 (ReadOk (actor_of 2 2) node id_b zero_ballot (Values []) ∷ [])
    ∷ took (actor_of 1 2) 21 (ReadOk (actor_of 1 2) node id_b zero_ballot (Values []) ∷ [])
    ∷ noted 20 (Decide id_b id_b.0 Fast [] ∷ []) (map (λ s. Stable node s id_b zero_ballot body_b id_b.0 []) stores_b)
    ∷ took node 19 []
    ∷ took node 18 []
    ∷ took (actor_of 3 2) 17 (PreAcceptOk (actor_of 3 2) node id_b zero_ballot id_b.0 [] ∷ [])
    ∷ took (actor_of 2 2) 16 (PreAcceptOk (actor_of 2 2) node id_b zero_ballot id_b.0 [] ∷ [])
    ∷ took (actor_of 1 2) 15 (PreAcceptOk (actor_of 1 2) node id_b zero_ballot id_b.0 [] ∷ [])
    ∷ begun 1 id_b (map (λ s. PreAccept node s id_b zero_ballot body_b) stores_b)
    ∷ took (actor_of 3 1) 14 []
    ∷ took (actor_of 2 1) 13 []
    ∷ took (actor_of 1 1) 12 []
    ∷ took node 11 []
    ∷ took node 10 []
    ∷ noted 9 (Outcome id_a outcome_a.reply ∷ ReplyNote id_a outcome_a.reply ∷ []) (map (λ s. Apply node s id_a zero_ballot body_a id_a.0 [] outcome_a) stores_a)
    ∷ took (actor_of 3 1) 8 (ReadOk (actor_of 3 1) node id_a zero_ballot (Values []) ∷ [])
    ∷ took (actor_of 2 1) 7 (ReadOk (actor_of 2 1) node id_a zero_ballot (Values []) ∷ [])
    ∷ took (actor_of 1 1) 6 (ReadOk (actor_of 1 1) node id_a zero_ballot (Values []) ∷ [])
    ∷ noted 5 (Decide id_a id_a.0 Fast [] ∷ []) (map (λ s. Stable node s id_a zero_ballot body_a id_a.0 []) stores_a)
    ∷ took node 4 []
    ∷ took node 3 []
    ∷ took (actor_of 3 1) 2 (PreAcceptOk (actor_of 3 1) node id_a zero_ballot id_a.0 [] ∷ [])
    ∷ took (actor_of 2 1) 1 (PreAcceptOk (actor_of 2 1) node id_a zero_ballot id_a.0 [] ∷ [])
    ∷ took (actor_of 1 1) 0 (PreAcceptOk (actor_of 1 1) node id_a zero_ballot id_a.0 [] ∷ [])
    ∷ begun 0 id_a (map (λ s. PreAccept node s id_a zero_ballot body_a) stores_a)
    ∷ []

-- the newest first
unfoldable pub after_three : List Item
after_three =
    took (actor_of 3 2) 59 []
    ∷ took (actor_of 2 2) 58 []
    ∷ took (actor_of 1 2) 57 []
    ∷ took (actor_of 3 1) 56 []
    ∷ took (actor_of 2 1) 55 []
    ∷ took (actor_of 1 1) 54 []
    ∷ took node 53 []
    ∷ took node 52 []
    ∷ noted 51 (Outcome id_c outcome_c.reply ∷ ReplyNote id_c outcome_c.reply ∷ []) (map (λ s. Apply node s id_c zero_ballot body_c id_c.0 deps_c outcome_c) stores_c)
    ∷ took node 50 []
    ∷ took node 49 []
    ∷ took node 48 []
    ∷ took (actor_of 3 2) 47 (ReadOk (actor_of 3 2) node id_c zero_ballot (Values read_zoe) ∷ [])
    ∷ took (actor_of 2 2) 46 (ReadOk (actor_of 2 2) node id_c zero_ballot (Values read_zoe) ∷ [])
    ∷ took (actor_of 1 2) 45 (ReadOk (actor_of 1 2) node id_c zero_ballot (Values read_zoe) ∷ [])
    ∷ took (actor_of 3 1) 44 (ReadOk (actor_of 3 1) node id_c zero_ballot (Values read_alice) ∷ [])
    ∷ took (actor_of 2 1) 43 (ReadOk (actor_of 2 1) node id_c zero_ballot (Values read_alice) ∷ [])
    ∷ took (actor_of 1 1) 42 (ReadOk (actor_of 1 1) node id_c zero_ballot (Values read_alice) ∷ [])
    ∷ noted 41 (Decide id_c id_c.0 Fast deps_c ∷ []) (map (λ s. Stable node s id_c zero_ballot body_c id_c.0 deps_c) stores_c)
    ∷ took node 40 []
    ∷ took node 39 []
    ∷ took node 38 []
    ∷ took node 37 []
    ∷ took node 36 []
    ∷ took (actor_of 3 2) 35 (PreAcceptOk (actor_of 3 2) node id_c zero_ballot id_c.0 (deps_in 2 (id_b ∷ [])) ∷ [])
    ∷ took (actor_of 2 2) 34 (PreAcceptOk (actor_of 2 2) node id_c zero_ballot id_c.0 (deps_in 2 (id_b ∷ [])) ∷ [])
    ∷ took (actor_of 1 2) 33 (PreAcceptOk (actor_of 1 2) node id_c zero_ballot id_c.0 (deps_in 2 (id_b ∷ [])) ∷ [])
    ∷ took (actor_of 3 1) 32 (PreAcceptOk (actor_of 3 1) node id_c zero_ballot id_c.0 (deps_in 1 (id_a ∷ [])) ∷ [])
    ∷ took (actor_of 2 1) 31 (PreAcceptOk (actor_of 2 1) node id_c zero_ballot id_c.0 (deps_in 1 (id_a ∷ [])) ∷ [])
    ∷ took (actor_of 1 1) 30 (PreAcceptOk (actor_of 1 1) node id_c zero_ballot id_c.0 (deps_in 1 (id_a ∷ [])) ∷ [])
    ∷ begun 2 id_c (map (λ s. PreAccept node s id_c zero_ballot body_c) stores_c)
    ∷ after_two
