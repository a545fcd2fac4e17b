use Rattle.std.proofs.Common.{◌≡◌, map}
use Rattle.acc_desk.specs.Desks.{AreSound, mark_of, name_of}
use Rattle.acc_desk.proofs.serving.rounds.Given as goal

abbrev pub invariant-loop : goal.invariant-loop
invariant-loop g l = record {
  can_next : (goal.iterator-loop g).can_next l.iterator';
  is_finite : (goal.iterator-loop g).is_finite l.iterator';
  same : map name_of l.desks.items ≡ map name_of l.initial.desks.items;
  marks : map mark_of l.desks.items ≡ map mark_of l.initial.desks.items;
  sound : AreSound g.D.Disk g.J.Planned.strict l.plan l.tape l.desks.items;
}
