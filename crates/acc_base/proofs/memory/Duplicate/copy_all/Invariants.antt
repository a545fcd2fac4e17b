-- The copies so far are those of the items before this one.
use Rattle.std.proofs.Common.{◌≡◌, take}
use Rattle.acc_base.proofs.memory.Duplicate.copy_all.Given as goal

abbrev pub invariant-loop-item : goal.invariant-loop-item
invariant-loop-item g l = l.copies.items ≡ take l.item-index l.items
