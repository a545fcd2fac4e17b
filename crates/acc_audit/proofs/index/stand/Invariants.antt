-- What stands by the keys so far.
use Rattle.std.proofs.Common.{◌≡◌, map, take}
use Rattle.acc_audit.specs.Users.{shown, stands_at}
use Rattle.acc_audit.proofs.index.stand.Given as goal

abbrev pub invariant-loop-used : goal.invariant-loop-used
invariant-loop-used l = map shown l.stood.items ≡ map (stands_at l.users) (take l.used-index l.uses)
