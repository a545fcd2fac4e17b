use Rattle.std.proofs.Common.{◌≡◌}
use mathlib.Core.List.{IsPrefix}
use Rattle.acc_desk.specs.Desks.{run_with, IsSound, state_of}
use Rattle.acc_desk.proofs.desk.Desk.look.Given as goal

abbrev pub invariant-loop-place : goal.invariant-loop-place
invariant-loop-place g l = record {
  same : (l.self.actor ≡ l.initial.self.actor) × (l.self.commands ≡ l.initial.self.commands) × (l.self.gone ≡ l.initial.self.gone);
  mark : l.self.unsound ≡ l.initial.self.unsound;
  mine : l.self.seat.mine ≡ l.initial.self.seat.mine;
  seen : IsPrefix l.initial.self.seat.seen l.self.seat.seen;
  desk : IsSound g.D.Disk (run_with g.J.Planned.strict l.plan l.tape) (state_of l.self);
}
