-- Which dependency is the last that holds back a transaction.
use Rattle.std.specs.Prelude.{◌≡◌, ℕ, ◌+◌, ◌<◌, ◌≤◌, length, false, List, Some, IsTrue}
use Rattle.std.specs.List.{slice_get}
use Rattle.acc_stamp.specs.declared.stamps.Stamp.{Stamp}
use Rattle.acc_stamp.specs.declared.stamps.TxnId.{TxnId}
use Rattle.acc_message.specs.Opening.{Change}
use Rattle.acc_opening.specs.Plan.{Lookup, is_past_behind}

-- each dependency at these places holds back no transaction with this timestamp
abbrev pub ArePast : Lookup → List Change → Stamp → List TxnId → ℕ → ℕ → Type 0
ArePast at done t ids from end =
    (i : ℕ) (z : TxnId) → from ≤ i → i < end → slice_get ids i ≡ Some z → IsTrue (is_past_behind at done t z)

-- none up to this place holds it back
abbrev pub AllPastUpTo : Lookup → List Change → Stamp → List TxnId → ℕ → Type 0
AllPastUpTo at done t ids last = ArePast at done t ids 0 (last + 1)

-- none after this place holds it back
abbrev pub AllPastBehind : Lookup → List Change → Stamp → List TxnId → ℕ → Type 0
AllPastBehind at done t ids place = ArePast at done t ids (place + 1) (length ids)

-- of the dependencies up to a place, the last that holds it back stands at this one
pub record IsLastHeld (at : Lookup) (done : List Change) (t : Stamp) (ids : List TxnId) (last place : ℕ) : Type 0 where
  pub begins : place ≤ last
  pub within : place < length ids
  pub past : ArePast at done t ids (place + 1) (last + 1)
  pub held : (z : TxnId) → slice_get ids place ≡ Some z → is_past_behind at done t z ≡ false
