use Rattle.std.proofs.Common.{◌≡◌, map, take}
use Rattle.std.specs.Arc.{arc_value}
use Rattle.acc_message.proofs.growing_items.share_all.Given as goal

abbrev pub invariant-loop-item : goal.invariant-loop-item
invariant-loop-item l = map arc_value l.shared.items ≡ map arc_value (take l.item-index l.items)
