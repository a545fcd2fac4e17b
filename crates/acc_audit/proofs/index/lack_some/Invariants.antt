-- None so far lacks.
use Rattle.std.proofs.Common.{◌≡◌, false, map, take}
use Rattle.std.specs.List.{list_any}
use Rattle.acc_audit.specs.Users.{lacks_at, shown}
use Rattle.acc_audit.proofs.index.lack_some.Given as goal

abbrev pub invariant-loop-one : goal.invariant-loop-one
invariant-loop-one l = list_any (lacks_at l.number l.t l.marks l.mark) (map shown (take l.one-index l.stood)) ≡ false
