-- The steps so far are taken, and the others are due.
use Rattle.std.proofs.Common.{drop}
use Rattle.acc_heal.specs.Places.{IsReopening, IsReopeningBy, StandsIn, Leads}
use Rattle.acc_heal.proofs.healing.reopen.Given as goal

abbrev pub invariant-loop-step : goal.invariant-loop-step
invariant-loop-step g l =
    record {
      standing :
          StandsIn g.D.Disk l.plan l.cluster
          (IsReopeningBy l.number (drop l.step-index l.step-items));
      leads :
          Leads g.D.Disk l.plan l.fn.cluster l.cluster (IsReopening l.plan l.fn.number)
          (λ place now. IsReopeningBy l.number (drop l.step-index l.step-items) now);
    }
