-- The terms after the first are written up to this one, each with its sign.
use Rattle.std.proofs.Common.{◌≡◌, ◌++◌, take}
use Rattle.std.specs.List.{flat_map}
use Rattle.acc_print.specs.Canonical.{signed_text}
use Rattle.acc_print.proofs.sums.push_sum.Given as goal

abbrev pub invariant-loop-part : goal.invariant-loop-part
invariant-loop-part l = l.text.items ≡ l.initial.text.items ++ flat_map (signed_text l.lets) (take l.part-index l.others)
