-- Items that note something, for small examples. Only their notes matter, and which transaction they begin.
use Rattle.std.specs.Prelude.{ℕ, false, List, [], ◌∷◌}
use Rattle.acc_stamp.specs.declared.stamps.Stamp.{Stamp}
use Rattle.acc_stamp.specs.declared.stamps.TxnId.{TxnId}
use Rattle.acc_deps.specs.declared.shards.ShardDeps.{ShardDeps}
use Rattle.acc_txn.specs.declared.outcome.Reply.{Reply}
use Rattle.acc_message.specs.declared.note.Path.TheVariants.{Fast}
use Rattle.acc_message.specs.declared.note.Note.{Note}
use Rattle.acc_message.specs.declared.note.Note.TheVariants.{Begin as BeginNote, Decide, Outcome as OutcomeNote, Reply as ReplyNote}
use Rattle.acc_message.specs.declared.entry.Event.TheVariants.{Begin, Message as Takes}
use Rattle.acc_message.specs.declared.item.Item.{Item}
use Rattle.acc_message.specs.declared.item.Item.TheVariants.{Step}
use Rattle.acc_examples.specs.Actors.{node_at}

-- the begin of the transaction with this number, which drew this id
abbrev pub begun : ℕ → TxnId → Item
begun txn x =
    Step (record { actor = node_at 1; event = Begin txn; emitted = record { notes = BeginNote x ∷ []; out = [] }; lost = false })

-- a step with these notes
abbrev pub noting : List Note → Item
noting notes = Step (record { actor = node_at 1; event = Takes 0; emitted = record { notes = notes; out = [] }; lost = false })

abbrev pub decided : TxnId → Stamp → List ShardDeps → Item
decided x t deps = noting (Decide x t Fast deps ∷ [])

abbrev pub finished : TxnId → Reply → Item
finished x reply = noting (OutcomeNote x reply ∷ [])

abbrev pub answered : TxnId → Reply → Item
answered x reply = noting (ReplyNote x reply ∷ [])

-- the outcome and the reply in one step
abbrev pub finished_and_answered : TxnId → Reply → Item
finished_and_answered x reply = noting (OutcomeNote x reply ∷ ReplyNote x reply ∷ [])
