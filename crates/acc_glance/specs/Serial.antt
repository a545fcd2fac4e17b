-- The serial cells of items, as tables.
use Rattle.std.specs.Prelude.{◌≡◌, Bool, List, Option, None, Some}
use Rattle.std.specs.List.{list_any, AllByRecursion}
use Rattle.std.specs.BTreeMap.{is_at}
use Rattle.acc_stamp.specs.declared.stamps.TxnId.{TxnId}
use Rattle.acc_stamp.specs.Stamp.{id_cmp}
use Rattle.acc_value.specs.declared.key.Key.{Key}
use Rattle.acc_value.specs.declared.value.Value.{Value}
use Rattle.acc_value.specs.Cells.{cells_of}
use Rattle.acc_txn.specs.declared.parts.BodyParts.{BodyParts}
use Rattle.acc_message.specs.declared.note.Note.{Note}
use Rattle.acc_message.specs.declared.note.Note.TheVariants.{Outcome}
use Rattle.acc_message.specs.declared.item.Item.{Item}
use Rattle.acc_message.specs.Items.{notes_of, txn_of}
use Rattle.acc_message.specs.Run.{Cluster}
use Rattle.acc_report.specs.Known.{number_at}
use Rattle.acc_safety.specs.Decisions.{Answered, body_of, first_outcomes, is_answered, outcomes_of}
use Rattle.acc_glance_laws.specs.SerialCells.{cells_after}
use Rattle.acc_glance.specs.declared.serial.Serial.{Serial}

-- the transaction of an outcome
abbrev pub outcome_id : Note → Option TxnId
outcome_id (Outcome id reply) = Some id
outcome_id _ = None

abbrev pub has_id : List TxnId → TxnId → Bool
has_id keys x = list_any (is_at (id_cmp x)) keys

-- each of these outcomes is one of a transaction with a body
abbrev pub HaveBodies : Cluster → List Item → List Answered → Type 0
HaveBodies cluster items answers = AllByRecursion (λ (a : Answered). (body : BodyParts) × (body_of cluster items a.id ≡ Some body)) answers

-- the cells that the first outcomes among these notes leave
abbrev pub cells_by : Cluster → List Item → List Note → Key → Option Value
cells_by cluster items notes key = cells_after cluster items (λ _. None) (first_outcomes notes) key

-- the tables are those of these items, of which these notes are gone over
pub record TellsNotes (serial : Serial) (cluster : Cluster) (items : List Item) (notes : List Note) : Type 0 where
  pub begun : (x : TxnId) → number_at serial.begun.entries x ≡ txn_of items x
  pub answered : (x : TxnId) → has_id serial.answered.keys x ≡ is_answered x (outcomes_of notes)
  pub bodies : HaveBodies cluster items (first_outcomes notes)
  pub cells : (key : Key) → cells_of serial.cells key ≡ cells_by cluster items notes key

-- all of them are
abbrev pub Tells : Serial → Cluster → List Item → Type 0
Tells serial cluster items = TellsNotes serial cluster items (notes_of items)
