-- The numbers of those so far fit.
use Rattle.std.proofs.Common.{◌≡◌, true, false, take}
use Rattle.std.specs.List.{list_any}
use Rattle.acc_txn.specs.Rules.{condition_has}
use Rattle.acc_print.specs.Numbers.{has_unsaid_term}
use Rattle.acc_print.proofs.numbers.visit_conditions.Given as goal

abbrev pub invariant-loop-guard : goal.invariant-loop-guard
invariant-loop-guard l = list_any (condition_has (has_unsaid_term true)) (take l.guard-index l.guards) ≡ false
