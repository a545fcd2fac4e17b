-- The names so far are printed, each after a comma.
use Rattle.std.proofs.Common.{◌≡◌, ◌++◌, take, map}
use Rattle.std.specs.Prelude.{codes}
use Rattle.std.specs.List.{flat_map}
use Rattle.acc_report.specs.Numbers.{name_in}
use Rattle.acc_report.proofs.parts.push_more_names.Given as goal

abbrev pub invariant-loop-id : goal.invariant-loop-id
invariant-loop-id l = l.text.items ≡ l.initial.text.items ++ flat_map (λ name. codes "," ++ name) (map (name_in l.directory) (take l.id-index l.ids))
