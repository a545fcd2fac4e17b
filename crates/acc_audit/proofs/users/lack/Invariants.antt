-- No entry so far is lacking.
use Rattle.std.proofs.Common.{◌≡◌, false, take}
use Rattle.std.specs.List.{list_any}
use Rattle.acc_audit.specs.Users.{is_lacking}
use Rattle.acc_audit.proofs.users.lack.Given as goal

abbrev pub invariant-loop-entry : goal.invariant-loop-entry
invariant-loop-entry l = list_any (is_lacking l.number l.t l.marks l.mark) (take l.entry-index l.entries) ≡ false
