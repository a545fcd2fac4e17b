-- The history of a store: the messages that it took, the newest first, each with what it sent then. A message that it is
-- taking stands in front of them, with nothing sent yet.
use Rattle.std.specs.Prelude.{ℕ, Bool, true, false, not, cond, ◌&&◌, List, [], ◌∷◌, Option, None, Some, filter}
use Rattle.std.specs.List.{list_any}
use Rattle.acc_stamp.specs.declared.stamps.TxnId.{TxnId}
use Rattle.acc_stamp.specs.Stamp.{id_eq}
use Rattle.acc_topology.specs.Layout.{Layout}
use Rattle.acc_txn.specs.declared.parts.BodyParts.{BodyParts}
use Rattle.acc_message.specs.declared.message.Message.{Message}
use Rattle.acc_message.specs.declared.message.Message.TheVariants.{PreAccept, PreAcceptOk, Accept, AcceptOk, Commit, CommitOk, Stable, ReadOk, Apply, Recover, RecoverOk, Nack, Decided, Inform}
use Rattle.acc_message.specs.Fields.{id_of}
use Rattle.acc_message.specs.Shares.{conflict_in}

-- one step of a store: the message that it took and what it sent then
pub record Taken : Type 0 where
  pub message : Message
  pub sent : List Message

-- the history with a message that is being taken
abbrev pub taking : Message → List Taken → List Taken
taking m past = record { message = m; sent = [] } ∷ past

-- the body that a message to a store brings
abbrev pub body_in : Message → Option BodyParts
body_in (PreAccept from to id ballot body) = Some body
body_in (Accept from to id ballot body t deps) = Some body
body_in (Commit from to id ballot body t deps) = Some body
body_in (Stable from to id ballot body t deps) = Some body
body_in (Apply from to id ballot body t deps outcome) = Some body
body_in (Recover from to id ballot body) = Some body
body_in _ = None

-- ---- the transactions that a store knows

-- a known transaction, with the body that the store heard first
pub record Heard : Type 0 where
  pub id : TxnId
  pub body : BodyParts

abbrev pub is_heard : TxnId → List Heard → Bool
is_heard x heard = list_any (λ (k : Heard). id_eq k.id x) heard

abbrev pub learnt : Bool → TxnId → Option BodyParts → List Heard → List Heard
learnt true id body before = before
learnt false id None before = before
learnt false id (Some body) before = record { id = id; body = body } ∷ before

abbrev pub learnt_from : Message → List Heard → List Heard
learnt_from m before = learnt (is_heard (id_of m) before) (id_of m) (body_in m) before

-- each known transaction once, the newest first
abbrev pub known : List Taken → List Heard
known [] = []
known (step ∷ past) = learnt_from step.message (known past)

-- the body of x, where it is known
abbrev pub heard_body : TxnId → List Heard → Option BodyParts
heard_body x [] = None
heard_body x (k ∷ heard) = cond (id_eq k.id x) (Some k.body) (heard_body x heard)

abbrev pub body_known : List Taken → TxnId → Option BodyParts
body_known history x = heard_body x (known history)

-- the known transactions other than x that conflict with it in the shard
abbrev pub rivals_among : Layout → ℕ → List Heard → TxnId → BodyParts → List Heard
rivals_among layout shard heard x body =
    filter (λ (k : Heard). not (id_eq k.id x) && conflict_in layout shard k.body body) heard

abbrev pub rivals : Layout → ℕ → List Taken → TxnId → BodyParts → List Heard
rivals layout shard history x body = rivals_among layout shard (known history) x body
