use Rattle.std.proofs.Common.{◌≡◌, ◌≤◌}
use Rattle.acc_tape.proofs.tape.Tape.draw_late.Given as goal

abbrev pub invariant-loop : goal.invariant-loop
invariant-loop g l = record {
  can_next : (goal.iterator-loop g).can_next l.iterator';
  is_finite : (goal.iterator-loop g).is_finite l.iterator';
  tape : l.token.table_id ≡ l.initial.token.table_id;
  id : l.token.id ≡ l.initial.token.id;
  me : l.token.me ≡ l.initial.token.me;
  few : l.looks ≤ 64;
}
