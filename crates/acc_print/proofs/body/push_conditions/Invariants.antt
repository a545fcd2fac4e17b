-- The conditions after the first are written up to this one, each after an AND.
use Rattle.std.proofs.Common.{◌≡◌, ◌++◌, take}
use Rattle.std.specs.Prelude.{codes}
use Rattle.std.specs.List.{flat_map}
use Rattle.acc_print.specs.Canonical.{condition_text}
use Rattle.acc_print.proofs.body.push_conditions.Given as goal

abbrev pub invariant-loop-guard : goal.invariant-loop-guard
invariant-loop-guard l = l.text.items ≡ l.initial.text.items ++ flat_map (λ guard. codes " AND " ++ condition_text l.lets guard) (take l.guard-index l.others)
