use Rattle.std.proofs.Common.{◌≡◌, map}
use Rattle.std.specs.Vec.{vec_len}
use Rattle.acc_desk.specs.Desks.{AreSound, mark_of, name_of}
use Rattle.acc_desk.proofs.Rounds.{SoFar}
use Rattle.acc_desk.proofs.serving.round.Given as goal

abbrev pub invariant-loop-place : goal.invariant-loop-place
invariant-loop-place g l = record {
  same : map name_of l.desks.items ≡ map name_of l.initial.desks.items;
  sound : AreSound g.D.Disk g.J.Planned.strict l.plan l.tape l.desks.items;
  marks : map mark_of l.desks.items ≡ map mark_of l.initial.desks.items;
  came : SoFar l.all l.initial.desks.items l.desks.items;
  long : vec_len l.desks ≡ l.place-end;
}
