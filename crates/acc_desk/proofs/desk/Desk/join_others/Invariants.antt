use Rattle.std.proofs.Common.{◌≤◌, length, map, take, drop}
use Rattle.acc_actors.specs.declared.slot.Slot.{Slot}
use Rattle.acc_desk.specs.Desks.{run_with, newest, state_of, ChangesSlot}
use Rattle.acc_desk.specs.Groups.{gathered, joining_of, CanAllJoin, IsGathering}
use Rattle.acc_desk.proofs.desk.Desk.join_others.Given as goal

abbrev pub invariant-loop-place : goal.invariant-loop-place
invariant-loop-place g l = record {
  same : ChangesSlot l.fn.self l.self;
  low : 1 ≤ l.place;
  high : l.place ≤ length l.found;
  can : CanAllJoin l.plan (newest l.self.seat) l.self.actor (drop l.self.gone l.self.commands) (map joining_of l.found);
  group : (first : Slot g.row.D.Denot) → IsGathering g.D.Disk (run_with g.J.Planned.strict l.plan l.tape) (state_of l.fn.self) (gathered first (take 1 (map joining_of l.found)) l.fn.used l.hold)
      → IsGathering g.D.Disk (run_with g.J.Planned.strict l.plan l.tape) (state_of l.self) (gathered first (take l.place (map joining_of l.found)) l.used l.hold);
}
