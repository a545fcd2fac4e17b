-- The journals before this one are named and read.
use Rattle.acc_left.proofs.MemberFacts.{AreNamed}
use Rattle.acc_left.proofs.members.images_in.Given as goal

abbrev pub invariant-loop-name : goal.invariant-loop-name
invariant-loop-name l = AreNamed l.topology l.journals.entries l.name-iterator l.images
