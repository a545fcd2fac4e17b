-- The Applys among messages, by the numbers of the messages.
use Rattle.std.specs.Prelude.{◌≡◌, ℕ, ◌≤◌, zero, suc, List, length, map, Option, None, Some}
use Rattle.std.specs.List.{slice_get}
use Rattle.std.specs.Option.{option_flatten}
use Rattle.acc_stamp.specs.declared.stamps.TxnId.{TxnId}
use Rattle.acc_message.specs.declared.message.Message.{Message}
use Rattle.acc_message.specs.declared.message.Message.TheVariants.{Apply}

-- the transaction of an Apply
abbrev pub applied_by : Message → Option TxnId
applied_by (Apply from to id ballot body t deps outcome) = Some id
applied_by _ = None

-- these tell of each message whether it is an Apply, and of which transaction
abbrev pub AreApplies : List (Option TxnId) → List Message → Type 0
AreApplies applies sent = applies ≡ map applied_by sent

-- what they tell of the message with this number
abbrev pub apply_at : List (Option TxnId) → ℕ → Option TxnId
apply_at applies number = option_flatten (slice_get applies number)

-- ---- as they are kept

-- the transaction to which a mark points: it is one more than the place of the id, and 0 points to none
abbrev pub marked : List TxnId → ℕ → Option TxnId
marked ids zero = None
marked ids (suc place) = slice_get ids place

-- each mark within the ids before points to the same within the ids after
abbrev pub KeepsMarks : List TxnId → List TxnId → Type 0
KeepsMarks before after = (mark : ℕ) → mark ≤ length before → (marked after mark ≡ marked before mark) × (mark ≤ length after)
