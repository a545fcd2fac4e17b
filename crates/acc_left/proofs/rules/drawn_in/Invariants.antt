-- The journals of nodes before this place keep the rules, and their draws are in the table.
use Rattle.acc_left.proofs.RuleFacts.{AreDrawn}
use Rattle.acc_left.proofs.rules.drawn_in.Given as goal

abbrev pub invariant-loop-image : goal.invariant-loop-image
invariant-loop-image l = AreDrawn l.plan l.images l.image-index l.drawn.draws
