-- So many moments after the last step have passed.
use Rattle.std.proofs.Common.{◌≡◌, ◌≤◌, ◌+◌, Bool, length, map}
use Rattle.std.specs.List.{AllByRecursion}
use Rattle.acc_glance.specs.declared.visits.Visitor.{Visitor}
use Rattle.acc_glance.specs.Visits.{HasReplicas}
use Rattle.acc_glance.specs.UnderWay.{IsUnderWay}
use Rattle.acc_glance.proofs.looking.finish_visits.Given as goal

abbrev pub invariant-loop-more : goal.invariant-loop-more
invariant-loop-more g l =
    record {
      few : l.more ≤ 33;
      looks : map (λ (v : Visitor). v.look) l.visitors.items ≡ map (λ (v : Visitor). v.look) l.fn.visitors.items;
      replicas : AllByRecursion (HasReplicas l.plan) l.visitors.items;
      under_way : (strictly : Bool) → IsUnderWay strictly g.D.Disk l.plan l.cluster l.fn.visitors.items (length l.plan.steps)
          → IsUnderWay strictly g.D.Disk l.plan l.cluster l.visitors.items (length l.plan.steps + l.more);
    }
