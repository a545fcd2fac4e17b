-- The numbers of those so far fit.
use Rattle.std.proofs.Common.{◌≡◌, true, false, take}
use Rattle.std.specs.List.{list_any}
use Rattle.acc_txn.specs.Rules.{update_has}
use Rattle.acc_print.specs.Numbers.{has_unsaid_term}
use Rattle.acc_print.proofs.numbers.visit_updates.Given as goal

abbrev pub invariant-loop-update : goal.invariant-loop-update
invariant-loop-update l = list_any (update_has (has_unsaid_term true)) (take l.update-index l.updates) ≡ false
