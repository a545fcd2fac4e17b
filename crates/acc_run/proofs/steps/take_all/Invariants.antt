-- The cluster has taken the steps so far.
use Rattle.std.proofs.Common.{◌≡◌, ◌≤◌, [], length, take}
use Rattle.acc_schedule_runs.specs.StrictMoves.{opened_strictly}
use Rattle.acc_cluster.specs.Stands.{StandsStrictly}
use Rattle.acc_run.specs.Taken.{HasTaken, HasTakenStrictly}
use Rattle.acc_run.proofs.steps.take_all.Given as goal

abbrev pub invariant-loop-step : goal.invariant-loop-step
invariant-loop-step g l =
    record {
      taken : HasTaken g.D.Disk l.plan l.cluster (take l.step-index l.step-items);
      strictly :
          StandsStrictly g.D.Disk l.plan l.fn.cluster (opened_strictly [])
          → HasTakenStrictly g.D.Disk l.plan l.cluster (take l.step-index l.step-items);
      items : l.step-items ≡ l.plan.steps;
      number : l.number ≡ l.step-index;
      few : length l.step-items ≤ 200000;
    }
