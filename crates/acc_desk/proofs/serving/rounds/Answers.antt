use Rattle.std.proofs.Common.{◌≡◌, Vec, Global, map, sym, ◌∙◌, subst}
use Rattle.acc_desk.specs.Desks.{AreSound, mark_of}
use Rattle.acc_desk.specs.declared.desk.Desk.{Desk}
use Rattle.acc_desk.proofs.Marked.{marks_since, refuse}
use Rattle.acc_desk.proofs.serving.rounds.Goals.{in-None, in-Some+in_ok-round+in-Full, in-Some+in_ok-round+in-Idle}
use Rattle.acc_desk.proofs.serving.rounds.Goals as goal

pub returns-clause-ok : goal.returns-clause-ok
returns-clause-ok g c =
    elim c.match-next.branch [
      | in-None w ↦ subst (λ (desks : Vec (Desk g.row.D.Denot g.row.J.Denot) Global). AreSound g.D.Disk g.J.Planned.strict c.args.plan.now c.args.tape.now desks.items) (sym w.desks-is) c.loop.invariant.sound
      | in-Some+in_ok-round+in-Full w ↦ subst (λ (desks : Vec (Desk g.row.D.Denot g.row.J.Denot) Global). AreSound g.D.Disk g.J.Planned.strict c.args.plan.now c.args.tape.now desks.items) (sym w.desks-is) w.in_ok-round.ensures.ok
      | in-Some+in_ok-round+in-Idle w ↦ subst (λ (desks : Vec (Desk g.row.D.Denot g.row.J.Denot) Global). AreSound g.D.Disk g.J.Planned.strict c.args.plan.now c.args.tape.now desks.items) (sym w.desks-is) w.in_ok-round.ensures.ok
    ]

pub returns-clause-marked : goal.returns-clause-marked
returns-clause-marked g c =
    elim c.match-next.branch [
      | in-None w ↦ subst (λ (desks : Vec (Desk g.row.D.Denot g.row.J.Denot) Global). map mark_of desks.items ≡ map mark_of c.args.desks.now.items) (sym w.desks-is) c.loop.invariant.marks
      | in-Some+in_ok-round+in-Full w ↦ subst (λ (desks : Vec (Desk g.row.D.Denot g.row.J.Denot) Global). map mark_of desks.items ≡ map mark_of c.args.desks.now.items) (sym w.desks-is) (w.in_ok-round.ensures.marked ∙ c.loop.invariant.marks)
      | in-Some+in_ok-round+in-Idle w ↦ subst (λ (desks : Vec (Desk g.row.D.Denot g.row.J.Denot) Global). map mark_of desks.items ≡ map mark_of c.args.desks.now.items) (sym w.desks-is) (w.in_ok-round.ensures.marked ∙ c.loop.invariant.marks)
    ]

pub returns-in_err-round-clause-marked : goal.returns-in_err-round-clause-marked
returns-in_err-round-clause-marked g c =
    refuse c.from_residual.result c.args.desks.now.items c.round.new.desks.items _ c.from_residual.ensures.1
    (marks_since c.args.desks.now.items c.loop.desks.items c.loop.invariant.marks c.round.new.desks.items c.in_err-round.ensures.marked)
