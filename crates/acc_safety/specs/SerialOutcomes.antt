-- Serial outcomes: taking the bodies in the order of their first outcomes, a serial run of them gives the same replies; and
-- no other outcome and no reply of a transaction differs from its first outcome.
use Rattle.std.specs.Prelude.{◌≡◌, false, IsTrue, List, ◌∷◌, ◌++◌, Some, Contains, map}
use Rattle.std.specs.List.{list_any}
use Rattle.acc_stamp.specs.declared.stamps.TxnId.{TxnId}
use Rattle.acc_txn.specs.declared.parts.BodyParts.{BodyParts}
use Rattle.acc_txn.specs.declared.outcome.Reply.{Reply}
use Rattle.acc_txn.specs.Serial.{serial}
use Rattle.acc_message.specs.declared.note.Note.{Note}
use Rattle.acc_message.specs.declared.note.Note.TheVariants.{Outcome as OutcomeNote}
use Rattle.acc_message.specs.declared.item.Item.{Item}
use Rattle.acc_message.specs.Items.{notes_of, begins, replies}
use Rattle.acc_message.specs.Run.{Cluster}
use Rattle.acc_safety.specs.Decisions.{Answered, outcomes_of, replies_of, is_answered, first_outcomes, body_of}

-- before the first outcome of a transaction comes its begin, and no reply of it
abbrev pub IsInPlace : List Note → Type 0
IsInPlace notes =
    (before after : List Note) (x : TxnId) (reply : Reply)
    → notes ≡ before ++ OutcomeNote x reply ∷ after
    → is_answered x (outcomes_of before) ≡ false
    → IsTrue (list_any (begins x) before) × (list_any (replies x) before ≡ false)

pub record SerialOutcomes (cluster : Cluster) (items : List Item) : Type 0 where
  pub bodies : List BodyParts
  pub bodies_are :
      map (λ (a : Answered). body_of cluster items a.id) (first_outcomes (notes_of items)) ≡ map (λ b. Some b) bodies
  pub serial_run : map (λ (a : Answered). a.reply) (first_outcomes (notes_of items)) ≡ serial bodies
  pub outcomes_agree : (a : Answered) → Contains (outcomes_of (notes_of items)) a → Contains (first_outcomes (notes_of items)) a
  pub replies_agree : (a : Answered) → Contains (replies_of (notes_of items)) a → Contains (first_outcomes (notes_of items)) a
  pub in_place : IsInPlace (notes_of items)
