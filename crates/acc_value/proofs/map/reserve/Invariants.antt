-- The cells are as before, and the writes so far have their entries.
use Rattle.std.proofs.Common.{◌≡◌, take}
use Rattle.acc_value.specs.declared.key.Key.{Key}
use Rattle.acc_value.specs.Entries.{held, IsReserved}
use Rattle.acc_value.proofs.map.reserve.Given as goal

abbrev pub invariant-loop-key : goal.invariant-loop-key
invariant-loop-key l = ((key : Key) → held l.entries key ≡ held l.fn.entries key) × IsReserved l.entries (take l.key-index l.writes)
