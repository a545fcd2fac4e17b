-- The looks so far have made their visit of the moment.
use Rattle.std.proofs.Common.{◌≡◌, List, ◌∷◌, length, map}
use Rattle.std.specs.Prelude.{nat_le}
use Rattle.std.specs.List.{AllByRecursion}
use Rattle.acc_schedule_runs.specs.Situations.{Situation}
use Rattle.acc_cluster.specs.Stands.{StandsFor}
use Rattle.acc_glance.specs.declared.visits.Visitor.{Visitor}
use Rattle.acc_glance.specs.Visits.{HasReplicas, IsLed}
use Rattle.acc_glance.proofs.Splits.{Split}
use Rattle.acc_glance.proofs.visits.visit_all.Given as goal

abbrev pub invariant-loop-place : goal.invariant-loop-place
invariant-loop-place g l =
    record {
      long : length l.visitors.items ≡ l.place-end;
      looks : map (λ (v : Visitor). v.look) l.visitors.items ≡ map (λ (v : Visitor). v.look) l.fn.visitors.items;
      replicas : AllByRecursion (HasReplicas l.plan) l.visitors.items;
      led : (s : Situation) (moments : List Situation) → StandsFor g.D.Disk l.plan l.cluster s → l.moment.number ≡ length moments
          → l.moment.over ≡ nat_le (length l.plan.steps) (length moments) → AllByRecursion (IsLed l.plan moments) l.fn.visitors.items
          → Split l.place (IsLed l.plan (s ∷ moments)) (IsLed l.plan moments) l.visitors.items;
    }
