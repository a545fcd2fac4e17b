-- Steps that open nothing, as they are planned.
--     IsPlannedAs shelf x body share stamp top plan      what is planned learns of the transaction, this stamp of it, and a greatest h
--     IsChangedBy old new plan      the shelf is changed as planned
--     IsPlanned layout shelf m plan      what is planned answers the message by the rules
use Rattle.std.specs.Prelude.{◌≡◌, ℕ, max, Bool, false, cond, List, ◌++◌, Option, None, Some, IfSome}
use Rattle.std.specs.Option.{option_map}
use Rattle.acc_base.specs.Faults.{or_else}
use Rattle.acc_stamp.specs.declared.stamps.Stamp.{Stamp}
use Rattle.acc_stamp.specs.declared.stamps.TxnId.{TxnId}
use Rattle.acc_stamp.specs.Stamp.{id_eq}
use Rattle.acc_topology.specs.Layout.{Layout}
use Rattle.acc_value.specs.declared.key.Key.{Key}
use Rattle.acc_txn.specs.declared.parts.BodyParts.{BodyParts}
use Rattle.acc_message.specs.declared.message.Message.{Message}
use Rattle.acc_message.specs.Opening.{may_open}
use Rattle.acc_message.specs.StoreRules.{store_answer, replay}
use Rattle.acc_record.specs.declared.plan.QuietParts.{QuietParts}
use Rattle.acc_record.specs.declared.record.Record.{Record}
use Rattle.acc_record.specs.declared.shelf.Shelf.{Shelf}
use Rattle.acc_record.specs.Changes.{changed}
use Rattle.acc_record.specs.Learning.{stamp_to_note, note_of, notes_of}
use Rattle.acc_record.specs.Shelf.{record_at}
use Rattle.acc_record.specs.Stands.{StandsFor, AnswersByRules}
use Rattle.acc_record.specs.Steps.{fresh}

-- ---- the record

-- a record is made for a transaction that isn't known
abbrev pub made_for : Option Record → TxnId → BodyParts → Option Record
made_for None x body = Some (fresh x body)
made_for (Some r) x body = None

-- a record was made for its transaction, and only where the shelf doesn't know that
abbrev pub IsNewIn : Shelf → QuietParts → Type 0
IsNewIn shelf plan = IfSome plan.made (λ made. (made.id ≡ plan.id) × (record_at shelf.records plan.id ≡ None))

-- ---- the plan

pub record IsPlannedAs (shelf : Shelf) (x : TxnId) (body : BodyParts) (share : List (Key × Bool)) (stamp : Option Stamp) (top : ℕ) (plan : QuietParts) : Type 0 where
  pub id_is : plan.id ≡ x
  pub made_is : plan.made ≡ made_for (record_at shelf.records x) x body
  pub note_is : plan.note ≡ note_of share (stamp_to_note (record_at shelf.records x) x stamp)
  pub top_is : plan.top ≡ top

-- ---- the step

-- the record of the transaction, or else the one that was made for it, is changed, the stamp is noted, and the greatest h raised
pub record IsChangedBy (old new : Shelf) (plan : QuietParts) : Type 0 where
  pub actor : new.actor ≡ old.actor
  pub records :
      (y : TxnId) → record_at new.records y
      ≡ cond (id_eq plan.id y) (option_map (changed plan.change) (or_else (record_at old.records plan.id) plan.made)) (record_at old.records y)
  pub index : new.index ≡ old.index ++ notes_of plan.id plan.note
  pub cells : new.cells ≡ old.cells
  pub waits : new.waits ≡ old.waits
  pub greatest : new.greatest ≡ max old.greatest plan.top

-- The message opens nothing. What is planned sends the rules' answer to it, whatever messages the shelf stands for, and a shelf that is
-- changed as planned has taken it.
pub record IsPlanned (layout : Layout) (shelf : Shelf) (m : Message) (plan : QuietParts) : Type 0 where
  pub quiet : may_open m ≡ false
  pub new : IsNewIn shelf plan
  pub answers :
      (messages : List Message) → StandsFor layout shelf (replay layout shelf.actor messages)
      → plan.sent ≡ store_answer layout shelf.actor (replay layout shelf.actor messages) m
  pub stands : (after : Shelf) → IsChangedBy shelf after plan → AnswersByRules layout shelf after m plan.sent
