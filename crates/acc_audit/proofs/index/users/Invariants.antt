-- The entries so far stand by their keys.
use Rattle.std.proofs.Common.{take}
use Rattle.acc_audit.specs.Users.{AllRise, AreUsers}
use Rattle.acc_audit.proofs.index.users.Given as goal

abbrev pub invariant-loop-entry : goal.invariant-loop-entry
invariant-loop-entry l = record {
  users : AreUsers l.bodies (take l.entry-index l.order) l.users;
  rise : AllRise l.users;
}
