-- What is known of the transaction with a number: its id, once it is begun.
use Rattle.std.specs.Prelude.{ℕ, Bool, true, false, List, Option, None, Some}
use Rattle.std.specs.List.{slice_index_or}
use Rattle.acc_base.specs.Faults.{or_else}
use Rattle.acc_stamp.specs.declared.stamps.TxnId.{TxnId}

-- what stands at the number of a transaction
abbrev pub begun_in : List (Option (Option TxnId)) → ℕ → Option (Option TxnId)
begun_in ids txn = slice_index_or ids txn None

abbrev pub begun_as : Bool → Option TxnId → Option (Option TxnId)
begun_as true id = Some id
begun_as false id = None

-- the first id that a begin drew stays
abbrev pub begun_after : Option TxnId → Option (Option TxnId) → Option TxnId
begun_after id None = id
begun_after id (Some first) = or_else first id

-- behind an item that begins it, or doesn't
abbrev pub begun_with : Bool → Option TxnId → Option (Option TxnId) → Option (Option TxnId)
begun_with true id before = Some (begun_after id before)
begun_with false id before = before

-- what is known by the ids of begun transactions, each at its number
abbrev pub known_as : Option (Option TxnId) → Option (Option TxnId)
known_as None = None
known_as (Some None) = None
known_as (Some (Some id)) = Some (Some id)

-- behind one more of them, which stands at this number or at another one
abbrev pub known_with : Bool → Option TxnId → Option (Option TxnId) → Option (Option TxnId)
known_with here None before = before
known_with here (Some id) before = begun_with here (Some id) before
