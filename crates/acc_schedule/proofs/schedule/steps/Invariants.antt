-- The steps before this one are read.
use Rattle.acc_schedule.specs.Seen.{seen}
use Rattle.acc_schedule.specs.Steps.{step_fault, step_of}
use Rattle.acc_schedule.proofs.EachFacts.{AreRead}
use Rattle.acc_schedule.proofs.schedule.steps.Given as goal

abbrev pub invariant-loop-place : goal.invariant-loop-place
invariant-loop-place l = AreRead (step_fault (seen l.cast)) (step_of (seen l.cast)) l.items l.place l.steps
