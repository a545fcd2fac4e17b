-- The decisions, outcomes and replies of a run, read from its notes in the order in which they are printed, and the bodies
-- of its transactions.
use Rattle.std.specs.Prelude.{ℕ, Bool, cond, List, [], ◌∷◌, Option, None, Some}
use Rattle.std.specs.List.{list_any, slice_get, flat_map}
use Rattle.acc_stamp.specs.declared.stamps.Stamp.{Stamp}
use Rattle.acc_stamp.specs.declared.stamps.TxnId.{TxnId}
use Rattle.acc_stamp.specs.Stamp.{id_eq}
use Rattle.acc_deps.specs.declared.shards.ShardDeps.{ShardDeps}
use Rattle.acc_txn.specs.declared.parts.BodyParts.{BodyParts}
use Rattle.acc_txn.specs.declared.outcome.Reply.{Reply}
use Rattle.acc_message.specs.declared.note.Note.{Note}
use Rattle.acc_message.specs.declared.note.Note.TheVariants.{Decide, Outcome as OutcomeNote, Reply as ReplyNote}
use Rattle.acc_message.specs.declared.item.Item.{Item}
use Rattle.acc_message.specs.Items.{txn_of}
use Rattle.acc_message.specs.Run.{Cluster}

-- ---- decisions: the timestamp of a transaction, and what has to come before

pub record Decision : Type 0 where
  pub id : TxnId
  pub t : Stamp
  pub deps : List ShardDeps

abbrev pub decisions_in : Note → List Decision
decisions_in (Decide id t path deps) = record { id = id; t = t; deps = deps } ∷ []
decisions_in _ = []

abbrev pub decisions_of : List Note → List Decision
decisions_of notes = flat_map decisions_in notes

-- ---- outcomes and replies

pub record Answered : Type 0 where
  pub id : TxnId
  pub reply : Reply

abbrev pub outcomes_in : Note → List Answered
outcomes_in (OutcomeNote id reply) = record { id = id; reply = reply } ∷ []
outcomes_in _ = []

abbrev pub outcomes_of : List Note → List Answered
outcomes_of notes = flat_map outcomes_in notes

abbrev pub replies_in : Note → List Answered
replies_in (ReplyNote id reply) = record { id = id; reply = reply } ∷ []
replies_in _ = []

abbrev pub replies_of : List Note → List Answered
replies_of notes = flat_map replies_in notes

abbrev pub is_answered : TxnId → List Answered → Bool
is_answered x answers = list_any (λ (a : Answered). id_eq a.id x) answers

-- those whose transaction isn't among the ones before
abbrev pub firsts_after : List Answered → List Answered → List Answered
firsts_after before [] = []
firsts_after before (a ∷ answers) =
    let rest : List Answered = firsts_after (a ∷ before) answers in
    cond (is_answered a.id before) rest (a ∷ rest)

-- the first outcome of each transaction, in the order of the list
abbrev pub first_outcomes : List Note → List Answered
first_outcomes notes = firsts_after [] (outcomes_of notes)

-- ---- bodies

abbrev pub body_at : Cluster → Option ℕ → Option BodyParts
body_at cluster None = None
body_at cluster (Some txn) = slice_get cluster.bodies txn

-- the body of a transaction: that of the number whose begin drew the id
abbrev pub body_of : Cluster → List Item → TxnId → Option BodyParts
body_of cluster items x = body_at cluster (txn_of items x)
