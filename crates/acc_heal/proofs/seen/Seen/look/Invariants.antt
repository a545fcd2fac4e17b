-- The tables tell of the items so far.
use Rattle.std.proofs.Common.{reverse, take}
use Rattle.acc_heal.specs.Seen.{Tells, TellsOldest}
use Rattle.acc_heal.proofs.seen.Seen.look.Given as goal

abbrev pub invariant-loop-place : goal.invariant-loop-place
invariant-loop-place l = TellsOldest l.fn.self (reverse l.items.items) → Tells l.self (reverse (take l.place l.items.items))
