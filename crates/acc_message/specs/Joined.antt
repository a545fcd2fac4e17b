-- The items of heads and of lists that hold their notes and messages, one head's after another's.
use Rattle.std.specs.Prelude.{◌≡◌, ℕ, ◌≤◌, zero, suc, Bool, true, false, List, [], ◌∷◌}
use Rattle.std.specs.List.{slice_range}
use Rattle.acc_message.specs.declared.message.Message.{Message}
use Rattle.acc_message.specs.declared.note.Note.{Note}
use Rattle.acc_message.specs.declared.item.Item.{Item}
use Rattle.acc_message.specs.declared.item.Item.TheVariants.{Step, Skipped, Down}
use Rattle.acc_message.specs.declared.item.Skip.TheVariants.{NoMessage, Down as ToDown, Begun, Unknown, NoQuorum}
use Rattle.acc_message.specs.declared.bare.Bare.{Bare}
use Rattle.acc_message.specs.declared.bare.Bare.TheVariants.{Step as BareStep, NoMessage as BareNoMessage, ToDown as BareToDown, Begun as BareBegun, Unknown as BareUnknown, NoQuorum as BareNoQuorum, Down as BareDown}
use Rattle.acc_message.specs.declared.head.Head.{Head}

-- the item with these notes and messages. What isn't a step has none
abbrev pub item_of : Bare → List Note → List Message → Item
item_of (BareStep lost actor event) notes out = Step (record { actor = actor; lost = lost; event = event; emitted = record { notes = notes; out = out } })
item_of (BareNoMessage step number sent) notes out = Skipped step (NoMessage number sent)
item_of (BareToDown step actor) notes out = Skipped step (ToDown actor)
item_of (BareBegun step txn) notes out = Skipped step (Begun txn)
item_of (BareUnknown step txn) notes out = Skipped step (Unknown txn)
item_of (BareNoQuorum step txn) notes out = Skipped step (NoQuorum txn)
item_of (BareDown actor) notes out = Down actor

abbrev pub is_step_of : Bare → Bool
is_step_of (BareStep lost actor event) = true
is_step_of (BareNoMessage step number sent) = false
is_step_of (BareToDown step actor) = false
is_step_of (BareBegun step txn) = false
is_step_of (BareUnknown step txn) = false
is_step_of (BareNoQuorum step txn) = false
is_step_of (BareDown actor) = false

-- the places after the notes of a head, and after its messages
abbrev pub noted_of : Head → ℕ
noted_of h = h.noted

abbrev pub until_of : Head → ℕ
until_of h = h.until

-- the items of heads whose notes and messages begin at these places
abbrev pub joined : ℕ → ℕ → List Head → List Note → List Message → List Item
joined noted from [] notes messages = []
joined noted from (h ∷ heads) notes messages = item_of h.bare (slice_range notes noted (noted_of h)) (slice_range messages from (until_of h)) ∷ joined (noted_of h) (until_of h) heads notes messages

-- by where each head ends, the heads stand from one place to another, each after the head before it
abbrev pub IsStretch : (Head → ℕ) → ℕ → List Head → ℕ → Type 0
IsStretch end from [] to = from ≡ to
IsStretch end from (h ∷ heads) to = (from ≤ end h) × IsStretch end (end h) heads to

-- by where each head ends, where the one with this number begins
abbrev pub begin_of : (Head → ℕ) → ℕ → List Head → ℕ → ℕ
begin_of end from heads zero = from
begin_of end from [] (suc number) = from
begin_of end from (h ∷ heads) (suc number) = begin_of end (end h) heads number
