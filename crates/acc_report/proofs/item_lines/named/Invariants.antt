-- The names so far are there.
use Rattle.std.proofs.Common.{◌≡◌, take, map}
use Rattle.acc_report.specs.Numbers.{name_in}
use Rattle.acc_report.proofs.item_lines.named.Given as goal

abbrev pub invariant-loop-id : goal.invariant-loop-id
invariant-loop-id l = l.names ≡ map (name_in l.directory) (take l.id-index l.ids)
