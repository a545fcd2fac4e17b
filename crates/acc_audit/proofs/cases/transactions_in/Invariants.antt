-- The transactions before this one are read.
use Rattle.std.proofs.Common.{◌≡◌, ◌++◌, ◌≤◌, length}
use Rattle.std.specs.Vec.Iter.{into_iter_items}
use Rattle.acc_audit.proofs.CaseFacts.{AllRead}
use Rattle.acc_audit.proofs.cases.transactions_in.Given as goal

abbrev pub invariant-loop-item : goal.invariant-loop-item
invariant-loop-item l = record {
  can_next : goal.iterator-loop-item.can_next l.item-iterator;
  is_finite : goal.iterator-loop-item.is_finite l.item-iterator;
  rest : l.yielded ++ into_iter_items l.item-iterator ≡ into_iter_items l.initial.item-iterator;
  place : l.place ≡ length l.yielded;
  few : length (into_iter_items l.initial.item-iterator) ≤ 10000;
  read : AllRead l.version (into_iter_items l.initial.item-iterator) l.place l.all.names l.all.bodies;
}
