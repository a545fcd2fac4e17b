-- The turns so far are taken or passed over, and the others are left.
use Rattle.acc_heal.specs.Places.{IsTurning, IsLeft, StandsIn, Leads}
use Rattle.acc_heal.proofs.turns.take_turns.Given as goal

abbrev pub invariant-loop-id : goal.invariant-loop-id
invariant-loop-id g l =
    record {
      standing : StandsIn g.D.Disk l.plan l.cluster (IsLeft l.plan l.number l.id-iterator l.seen);
      leads :
          Leads g.D.Disk l.plan l.fn.cluster l.cluster (IsTurning l.fn.number) (λ place now. IsLeft l.plan l.number l.id-iterator l.seen now);
    }
