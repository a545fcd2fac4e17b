-- The updates up to this one are written.
use Rattle.std.proofs.Common.{◌≡◌, ◌++◌, take}
use Rattle.std.specs.List.{flat_map}
use Rattle.acc_print.specs.Canonical.{update_text}
use Rattle.acc_print.proofs.body.push_updates.Given as goal

abbrev pub invariant-loop-update : goal.invariant-loop-update
invariant-loop-update l = l.text.items ≡ l.initial.text.items ++ flat_map (update_text l.lets) (take l.update-index l.updates)
