-- The items of a run as a tape holds them: whose they are, which message they took, and to whom theirs go.
use Rattle.std.specs.Prelude.{ℕ, ◌≤◌, Bool, false, List, [], ◌∷◌, ◌++◌, length, map, Option, None, Some}
use Rattle.std.proofs.Common.{arith}
use Rattle.std.proofs.lemmas.List.Sums.{sum_by-cons}
use Rattle.acc_message.specs.declared.entry.Event.{Event}
use Rattle.acc_message.specs.declared.entry.Event.TheVariants.{Begin, Message as TakesMessage}
use Rattle.acc_message.specs.declared.item.Item.{Item}
use Rattle.acc_message.specs.declared.item.Item.TheVariants.{Step, Skipped, Down}
use Rattle.acc_message.specs.declared.message.Message.{Message}
use Rattle.acc_message.specs.declared.note.Note.{Note}
use Rattle.acc_stamp.specs.declared.stamps.TxnId.{TxnId}
use Rattle.acc_message.specs.Fields.{envelope_of, to_of}
use Rattle.acc_message.specs.Items.{sent_in, id_drawn}
use Rattle.acc_message_code.specs.MessageSpelling.{number_of, envelope_bytes, content_bytes, message_bytes}
use Rattle.acc_message_code.specs.Weight.{weight_of_all, weight_of}

-- a skip is of no actor
abbrev pub actor_of_item : Item → ℕ
actor_of_item (Step e) = e.actor.0
actor_of_item (Skipped step cause) = 0
actor_of_item (Down actor) = actor.0

abbrev pub taken_by_event : Event → Option ℕ
taken_by_event (TakesMessage number) = Some number
taken_by_event _ = None

abbrev pub taken_by_item : Item → Option ℕ
taken_by_item (Step e) = taken_by_event e.event
taken_by_item (Skipped step cause) = None
taken_by_item (Down actor) = None

abbrev pub is_lost_item : Item → Bool
is_lost_item (Step e) = e.lost
is_lost_item (Skipped step cause) = false
is_lost_item (Down actor) = false

-- the transaction that an item begins, and the id that it drew for it
abbrev pub sign_of_event : Event → List Note → Option (ℕ × Option TxnId)
sign_of_event (Begin txn) notes = Some (txn, id_drawn notes)
sign_of_event _ notes = None

abbrev pub sign_of_item : Item → Option (ℕ × Option TxnId)
sign_of_item (Step e) = sign_of_event e.event e.emitted.notes
sign_of_item (Skipped step cause) = None
sign_of_item (Down actor) = None

abbrev pub addressee : Message → ℕ
addressee m = (to_of m).0

some_bytes : (byte : ℕ) (bytes : List ℕ) → 1 ≤ length (byte ∷ bytes)
some_bytes byte bytes = omega arith

-- each message has a byte
has_byte : (m : Message) → 1 ≤ length (message_bytes m)
unfolding message_bytes
has_byte m = some_bytes (number_of m) (envelope_bytes (envelope_of m) ++ content_bytes m)

each_weighs : (ms : List Message) → length (map addressee ms) ≤ weight_of_all ms
each_weighs [] = omega arith
each_weighs (m ∷ ms) = let rest = each_weighs ms in let first = has_byte m in let all = sum_by-cons (λ x. length (message_bytes x)) m ms in omega arith

pub weighs_enough : (item : Item) → length (map addressee (sent_in item)) ≤ weight_of item
weighs_enough item = each_weighs (sent_in item)
