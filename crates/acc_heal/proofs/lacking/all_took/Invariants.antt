-- The stores so far took an Apply.
use Rattle.std.proofs.Common.{◌≡◌, true, take}
use Rattle.std.specs.List.{list_all}
use Rattle.acc_heal.specs.Seen.{has_taker}
use Rattle.acc_heal.proofs.lacking.all_took.Given as goal

abbrev pub invariant-loop-store : goal.invariant-loop-store
invariant-loop-store l = list_all (has_taker l.seen.taken.keys l.id) (take l.store-index l.stores) ≡ true
