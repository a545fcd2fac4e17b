-- No line so far breaks a rule, and what is kept of them is there.
use Rattle.acc_audit.specs.Fronts.{before}
use Rattle.acc_audit.specs.Kept.{Holds}
use Rattle.acc_audit.proofs.FaultFacts.{KeptBefore}
use Rattle.acc_audit.proofs.judge.fault_in.Given as goal

abbrev pub invariant-loop-place : goal.invariant-loop-place
invariant-loop-place l = record {
  holds : Holds l.against.numbers.now l.against.bodies.now (before l.against.lines.now l.place) l.place l.front;
  kept : KeptBefore l.against.numbers.now l.against.bodies.now l.against.lines.now l.place;
}
