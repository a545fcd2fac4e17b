-- The places are as before, and the keys so far have room.
use Rattle.std.proofs.Common.{◌≡◌, Bool, take}
use Rattle.acc_value.specs.declared.key.Key.{Key}
use Rattle.acc_index.specs.Users.{places_at, HasRooms}
use Rattle.acc_index.proofs.users.reserve_all.Given as goal

abbrev pub invariant-loop-key : goal.invariant-loop-key
invariant-loop-key l = ((k : Key) (w : Bool) → places_at l.users k w ≡ places_at l.fn.users k w) × HasRooms l.users (take l.key-index l.uses)
