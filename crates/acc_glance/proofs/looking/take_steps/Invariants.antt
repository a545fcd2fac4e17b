-- The cluster has taken the steps so far, and the looks have made the visits of the moments before them.
use Rattle.std.proofs.Common.{◌≡◌, ◌≤◌, true, false, [], length, map, take}
use Rattle.std.specs.List.{AllByRecursion}
use Rattle.acc_schedule_runs.specs.StrictMoves.{opened_strictly}
use Rattle.acc_cluster.specs.Stands.{StandsStrictly}
use Rattle.acc_run.specs.Taken.{HasTaken, HasTakenStrictly}
use Rattle.acc_glance.specs.declared.visits.Visitor.{Visitor}
use Rattle.acc_glance.specs.Visits.{HasReplicas}
use Rattle.acc_glance.specs.UnderWay.{IsUnderWay}
use Rattle.acc_glance.proofs.looking.take_steps.Given as goal

abbrev pub invariant-loop-step : goal.invariant-loop-step
invariant-loop-step g l =
    record {
      taken : HasTaken g.D.Disk l.plan l.cluster (take l.step-index l.step-items);
      strictly :
          StandsStrictly g.D.Disk l.plan l.fn.cluster (opened_strictly [])
          → HasTakenStrictly g.D.Disk l.plan l.cluster (take l.step-index l.step-items);
      looks : map (λ (v : Visitor). v.look) l.visitors.items ≡ map (λ (v : Visitor). v.look) l.fn.visitors.items;
      replicas : AllByRecursion (HasReplicas l.plan) l.visitors.items;
      under_way : IsUnderWay false g.D.Disk l.plan l.cluster l.visitors.items l.step-index;
      strictly_under_way :
          StandsStrictly g.D.Disk l.plan l.fn.cluster (opened_strictly [])
          → IsUnderWay true g.D.Disk l.plan l.cluster l.visitors.items l.step-index;
      items : l.step-items ≡ l.plan.steps;
      number : l.number ≡ l.step-index;
      few : length l.step-items ≤ 200000;
    }
