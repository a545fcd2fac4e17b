use Rattle.std.proofs.Common.{◌≡◌, ◌++◌, map}
use Rattle.std.specs.Vec.Iter.{into_iter_items}
use Rattle.acc_tape.specs.Turn.{with_joined, gone_seat}
use Rattle.acc_tape.proofs.tape.Tape.gather.Given as goal

abbrev pub invariant-loop-other : goal.invariant-loop-other
invariant-loop-other g l = record {
  can_next : (goal.iterator-loop-other g).can_next l.other-iterator;
  is_finite : (goal.iterator-loop-other g).is_finite l.other-iterator;
  rest : l.yielded ++ into_iter_items l.other-iterator ≡ l.fn.others;
  tape : l.first.table_id ≡ l.initial.first.table_id;
  id : l.first.id ≡ l.initial.first.id;
  me : l.first.me ≡ with_joined l.initial.first.me (map gone_seat l.yielded);
}
