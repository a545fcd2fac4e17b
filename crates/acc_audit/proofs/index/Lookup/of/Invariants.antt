-- What stands by the keys of the transactions so far.
use Rattle.std.proofs.Common.{◌≡◌, map, take}
use Rattle.acc_audit.specs.Users.{shown_all, stand_by}
use Rattle.acc_audit.proofs.index.Lookup.of.Given as goal

abbrev pub invariant-loop-body : goal.invariant-loop-body
invariant-loop-body l = shown_all l.stood.items ≡ map (stand_by l.users) (take l.body-index l.bodies)
