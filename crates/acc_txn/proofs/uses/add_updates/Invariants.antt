-- The keys of the updates so far were added.
use Rattle.std.proofs.Common.{◌≡◌, true, map, take}
use Rattle.acc_txn.specs.Uses.{updated_key, with_keys}
use Rattle.acc_txn.proofs.uses.add_updates.Given as goal

abbrev pub invariant-loop-update : goal.invariant-loop-update
invariant-loop-update l = l.uses ≡ with_keys true l.fn.uses (map updated_key (take l.update-index l.updates))
