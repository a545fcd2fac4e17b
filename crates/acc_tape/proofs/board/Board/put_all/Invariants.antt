-- So many items were entered, and what is left of what is given up is for the others.
use Rattle.std.proofs.Common.{◌≡◌, ◌+◌, ◌++◌, length}
use Rattle.std.specs.Prelude.{sum_by}
use Rattle.std.specs.Vec.Iter.{into_iter_items}
use Rattle.acc_tape.proofs.Entering.{after_some}
use Rattle.acc_tape.proofs.board.Board.put_all.Given as goal

abbrev pub invariant-loop-item : goal.invariant-loop-item
invariant-loop-item g l = record {
  can_next : (goal.iterator-loop-item g).can_next l.item-iterator;
  is_finite : (goal.iterator-loop-item g).is_finite l.item-iterator;
  rest : l.yielded ++ into_iter_items l.item-iterator ≡ l.fn.entering.items;
  items_left : l.items_left + length l.yielded ≡ l.count;
  weight_left : l.weight_left + sum_by g.E.Posted.bytes l.yielded ≡ l.weight;
  board : l.self ≡ after_some g.E.Posted.bytes l.initial.self l.yielded;
}
