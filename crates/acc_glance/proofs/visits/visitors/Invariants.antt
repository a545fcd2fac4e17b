-- The looks so far have not begun.
use Rattle.std.proofs.Common.{◌≡◌, [], take, map}
use Rattle.std.specs.List.{AllByRecursion}
use Rattle.acc_glance.specs.declared.visits.Visitor.{Visitor}
use Rattle.acc_glance.specs.Visits.{HasReplicas, IsLed}
use Rattle.acc_glance.proofs.visits.visitors.Given as goal

abbrev pub invariant-loop-look : goal.invariant-loop-look
invariant-loop-look l = record {
  looks : map (λ (v : Visitor). v.look) l.visitors.items ≡ take l.look-index l.look-items;
  items : l.look-items ≡ l.looks;
  replicas : AllByRecursion (HasReplicas l.plan) l.visitors.items;
  led : AllByRecursion (IsLed l.plan []) l.visitors.items;
}
