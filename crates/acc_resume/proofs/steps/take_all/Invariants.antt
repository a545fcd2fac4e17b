-- The cluster has taken the steps so far.
use Rattle.std.proofs.Common.{◌≡◌, ◌≤◌, List, length, take}
use Rattle.acc_message.specs.declared.item.Item.{Item}
use Rattle.acc_schedule_runs.specs.StrictMoves.{opened_strictly}
use Rattle.acc_cluster.specs.Stands.{StandsStrictly}
use Rattle.acc_cluster.specs.Tested.{IsTested}
use Rattle.acc_resume.specs.Taken.{HasTakenAfter}
use Rattle.acc_resume.proofs.steps.take_all.Given as goal

abbrev pub invariant-loop-step : goal.invariant-loop-step
invariant-loop-step g l =
    record {
      tested : IsTested g.D.Disk l.plan l.cluster.cluster;
      taken :
          (earlier : List Item) → StandsStrictly g.D.Disk l.plan l.fn.cluster.cluster (opened_strictly earlier)
          → HasTakenAfter g.D.Disk l.plan earlier l.cluster.cluster (take l.step-index l.step-items);
      items : l.step-items ≡ l.plan.steps;
      number : l.number ≡ l.step-index;
      few : length l.step-items ≤ 200000;
    }
