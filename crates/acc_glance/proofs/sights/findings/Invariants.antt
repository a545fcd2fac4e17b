-- The looks so far are not settled.
use Rattle.std.proofs.Common.{◌≡◌, List, ◌++◌, map}
use Rattle.std.specs.List.{AllByRecursion}
use Rattle.std.specs.Vec.Iter.{into_iter_items}
use Rattle.acc_message.specs.declared.item.Item.{Item}
use Rattle.acc_message.specs.Run.{Cluster}
use Rattle.acc_glance.specs.declared.sights.Finding.{Finding}
use Rattle.acc_glance.specs.declared.visits.Visitor.{Visitor}
use Rattle.acc_glance.specs.Sights.{IsSettled}
use Rattle.acc_glance.proofs.sights.findings.Given as goal

abbrev pub invariant-loop-visitor : goal.invariant-loop-visitor
invariant-loop-visitor l = record {
  can_next : goal.iterator-loop-visitor.can_next l.visitor-iterator;
  is_finite : goal.iterator-loop-visitor.is_finite l.visitor-iterator;
  rest : l.yielded ++ into_iter_items l.visitor-iterator ≡ l.fn.visitors.items;
  looks : map (λ (f : Finding). f.look) l.findings.items ≡ map (λ (v : Visitor). v.look) l.yielded;
  stages : map (λ (f : Finding). f.stage) l.findings.items ≡ map (λ (v : Visitor). v.stage) l.yielded;
  unsettled : (cluster : Cluster) (items : List Item) → AllByRecursion (IsSettled cluster items 0) l.findings.items;
}
