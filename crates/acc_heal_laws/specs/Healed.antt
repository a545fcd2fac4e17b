-- Healed items: each transaction that was begun is decided, has its outcome, and is applied at each of its stores.
use Rattle.std.specs.Prelude.{◌≡◌, Bool, List, Some, IsTrue, Contains}
use Rattle.std.specs.List.{list_any}
use Rattle.acc_stamp.specs.declared.stamps.Stamp.{Stamp}
use Rattle.acc_stamp.specs.declared.stamps.TxnId.{TxnId}
use Rattle.acc_stamp.specs.declared.actors.Actor.{Actor}
use Rattle.acc_stamp.specs.Actor.{shard_of}
use Rattle.acc_deps.specs.declared.shards.ShardDeps.{ShardDeps}
use Rattle.acc_txn.specs.declared.parts.BodyParts.{BodyParts}
use Rattle.acc_txn.specs.declared.outcome.Reply.{Reply}
use Rattle.acc_message.specs.declared.note.Note.{Note}
use Rattle.acc_message.specs.declared.note.Note.TheVariants.{Begin as BeginNote, Decide as DecideNote, Outcome as OutcomeNote}
use Rattle.acc_message.specs.declared.note.Path.{Path}
use Rattle.acc_message.specs.declared.item.Item.{Item}
use Rattle.acc_message.specs.Items.{notes_of, begins}
use Rattle.acc_message.specs.Shares.{stores_used}
use Rattle.acc_message.specs.Opening.{is_applied}
use Rattle.acc_message.specs.Run.{Cluster, taken_of}
use Rattle.acc_safety.specs.Decisions.{body_of}
use Rattle.acc_delivered.specs.Ends.{was_decided, had_outcome}

pub record IsDone (cluster : Cluster) (items : List Item) (x : TxnId) : Type 0 where
  pub decided : IsTrue (was_decided x items)
  pub outcome : IsTrue (had_outcome x items)
  pub body : BodyParts
  pub body_is : body_of cluster items x ≡ Some body
  pub applied :
      (store : Actor) → Contains (stores_used cluster.layout body) store
      → IsTrue (is_applied (shard_of store) (taken_of cluster store items) x)

-- a note begins x
abbrev pub was_begun : TxnId → List Item → Bool
was_begun x items = list_any (begins x) (notes_of items)

abbrev pub IsHealed : Cluster → List Item → Type 0
IsHealed cluster items = (x : TxnId) → IsTrue (was_begun x items) → IsDone cluster items x

-- ---- what a report of healed items tells

-- the notes tell how x was decided, and its outcome
pub record IsTold (notes : List Note) (x : TxnId) : Type 0 where
  pub t : Stamp
  pub path : Path
  pub deps : List ShardDeps
  pub decided : Contains notes (DecideNote x t path deps)
  pub reply : Reply
  pub outcome : Contains notes (OutcomeNote x reply)

-- so they do of each transaction that they begin
abbrev pub TellsEach : List Note → Type 0
TellsEach notes = (x : TxnId) → Contains notes (BeginNote x) → IsTold notes x
