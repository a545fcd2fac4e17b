-- The numbers of the terms so far fit.
use Rattle.std.proofs.Common.{◌≡◌, true, false, take}
use Rattle.acc_print.specs.Numbers.{has_unsaid_term}
use Rattle.acc_print.proofs.numbers.visit_sum.Given as goal

abbrev pub invariant-loop-part : goal.invariant-loop-part
invariant-loop-part l = has_unsaid_term true (take l.part-index l.sum) ≡ false
