-- The LETs up to this one are written.
use Rattle.std.proofs.Common.{◌≡◌, ◌++◌, take}
use Rattle.std.specs.List.{flat_map}
use Rattle.acc_print.specs.Canonical.{let_text}
use Rattle.acc_print.proofs.body.push_lets.Given as goal

abbrev pub invariant-loop-binding : goal.invariant-loop-binding
invariant-loop-binding l = l.text.items ≡ l.initial.text.items ++ flat_map let_text (take l.binding-index l.lets)
