-- A client has one reply: the outcome that another node tells closes it, and so does the outcome of the own attempt. A decision
-- that a store tells is adopted once. Of the reads of one shard the first counts.
use Rattle.std.specs.Prelude.{ℕ, List, [], ◌∷◌, map}
use Rattle.acc_stamp.specs.declared.stamps.TxnId.{TxnId}
use Rattle.acc_stamp.specs.declared.actors.Actor.{Actor}
use Rattle.acc_stamp.specs.Actor.{actor_of}
use Rattle.acc_txn.specs.declared.parts.BodyParts.{BodyParts}
use Rattle.acc_txn.specs.declared.outcome.Outcome.{Outcome}
use Rattle.acc_message.specs.declared.answer.ReadAnswer.TheVariants.{Values}
use Rattle.acc_message.specs.declared.message.Message.{Message}
use Rattle.acc_message.specs.declared.message.Message.TheVariants.{PreAccept, Stable, ReadOk, Apply, Decided, Inform}
use Rattle.acc_message.specs.declared.note.Path.TheVariants.{Adopted}
use Rattle.acc_message.specs.declared.note.Note.TheVariants.{Begin, Decide, Outcome as OutcomeNote, Reply as ReplyNote}
use Rattle.acc_message.specs.declared.entry.Emitted.{Emitted}
use Rattle.acc_message.specs.Coordinator.{silence}
use Rattle.acc_message.specs.NodeRules.{Act, Begins, Takes}
use Rattle.acc_examples.specs.Clusters.{id, reading_both, key, alice, zoe, ok, number_cell}
use Rattle.acc_examples.specs.Actors.{a, zero, node_at}

abbrev pub both : BodyParts
both = reading_both alice zoe

abbrev pub told : Outcome
told = record { reply = ok (number_cell 1 ∷ number_cell 3 ∷ []); writes = [] }

-- the id of the second transaction of node 1
abbrev pub second : TxnId
second = id 2 64

abbrev pub decided : TxnId → Act
decided x = Takes (Decided (actor_of 3 2) (node_at 1) x zero x.0 [])

abbrev pub read : TxnId → ℕ → ℕ → List ℕ → ℕ → Act
read x node shard text number =
    Takes (ReadOk (actor_of node shard) (node_at 1) x zero (Values ((key text, number_cell number) ∷ [])))

abbrev pub informed : TxnId → Act
informed x = Takes (Inform (node_at 2) (node_at 1) x zero told)

abbrev pub acts : List Act
acts =
    Begins 0 both
    ∷ informed a
    ∷ informed a
    ∷ decided a
    ∷ decided a
    ∷ read a 1 1 alice 1
    ∷ read a 2 1 alice 2
    ∷ read a 1 2 zoe 3
    ∷ Begins 1 both
    ∷ decided second
    ∷ read second 1 1 alice 1
    ∷ read second 1 2 zoe 3
    ∷ informed second
    ∷ []

abbrev pub six : List Actor
six = actor_of 1 1 ∷ actor_of 2 1 ∷ actor_of 3 1 ∷ actor_of 1 2 ∷ actor_of 2 2 ∷ actor_of 3 2 ∷ []

abbrev pub beginning : TxnId → Emitted
beginning x = record { notes = Begin x ∷ []; out = map (λ store. PreAccept (node_at 1) store x zero both) six }

abbrev pub deciding : TxnId → Emitted
deciding x = record { notes = Decide x x.0 Adopted [] ∷ []; out = map (λ store. Stable (node_at 1) store x zero both x.0 []) six }

abbrev pub applying : TxnId → List Message
applying x = map (λ store. Apply (node_at 1) store x zero both x.0 [] told) six

abbrev pub emitted : List Emitted
emitted =
    beginning a
    ∷ record { notes = ReplyNote a told.reply ∷ []; out = [] }
    ∷ silence
    ∷ deciding a
    ∷ silence
    ∷ silence
    ∷ silence
    ∷ record { notes = OutcomeNote a told.reply ∷ []; out = applying a }
    ∷ beginning second
    ∷ deciding second
    ∷ silence
    ∷ record { notes = OutcomeNote second told.reply ∷ ReplyNote second told.reply ∷ []; out = applying second }
    ∷ silence
    ∷ []
