use Rattle.std.proofs.Common.{◌≡◌, ◌≢◌, Result, Ok, ◌∙◌, ap, subst, inl, inr}
use Rattle.acc_desk.specs.Choices.{TakesMessages}
use Rattle.acc_desk.specs.Outcomes.{CameTo}
use Rattle.acc_desk.specs.declared.turning.Turned.{Turned}
use Rattle.acc_desk.specs.declared.turning.Turned.TheVariants.{Taken, Idle}
use Rattle.acc_desk.proofs.Chosen.{messages_since}
use Rattle.acc_desk.proofs.Marked.{not_ok, since, at_turn, refuses_turn}
use Rattle.acc_desk.proofs.desk.Desk.turn.Goals as goal

taken : {E : Type 0} {r : Result Turned E} → r ≡ Ok Taken → r ≢ Ok Idle
taken is idle = absurd (cc)

pub returns-in-Idle-clause-took : goal.returns-in-Idle-clause-took
returns-in-Idle-clause-took g c = λ is.
    let old = c.args.self.now in
    let mid = c.command.new.self in
    let new = c.message.new.self in
    let idle = c.in_ok-command.ensures in
    let came = subst (λ so. CameTo c.args.plan.now c.args.tape.now (old.actor, old.commands) so (old.seat.mine, old.gone) mid.seat mid.gone) c.in-Idle.is idle.came in
    let took = c.message.ensures.took is in
    inr (
      idle.waits (ap Ok c.in-Idle.is) (idle.up (inr (c.message.ensures.up (taken is)))),
      (took.0 ∙ came.1, messages_since old.actor old.seat mid.seat new.seat (idle.seen (ap Ok c.in-Idle.is)) came.0 (subst (λ a. TakesMessages a mid.seat new.seat) c.command.ensures.same.0 took.1)),
    )

pub returns-in-Taken-clause-took : goal.returns-in-Taken-clause-took
returns-in-Taken-clause-took g c = λ is. inl (c.in_ok-command.ensures.took (ap Ok c.in-Taken.is))

pub returns-in_err-command-clause-marked : goal.returns-in_err-command-clause-marked
returns-in_err-command-clause-marked g c = refuses_turn c.args.self.now c.command.new.self _ c.from_residual.result c.from_residual.ensures.1 c.in_err-command.ensures.marked

pub returns-in-Idle-clause-marked : goal.returns-in-Idle-clause-marked
returns-in-Idle-clause-marked g c =
    at_turn c.args.self.now c.message.new.self c.message.result (since c.args.self.now c.message.new.self c.message.result c.command.new.self c.in_ok-command.ensures.marked c.message.ensures.marked)

pub returns-in_err-command-clause-up : goal.returns-in_err-command-clause-up
returns-in_err-command-clause-up g c = λ some. c.in_err-command.ensures.up (inl (not_ok _ _))

pub returns-in-Idle-clause-up : goal.returns-in-Idle-clause-up
returns-in-Idle-clause-up g c = λ some. c.in_ok-command.ensures.up (inr (c.message.ensures.up some))

pub returns-in-Taken-clause-up : goal.returns-in-Taken-clause-up
returns-in-Taken-clause-up g c = λ some. c.in_ok-command.ensures.up (inl (λ is. let taken = c.in-Taken.is in absurd (cc)))

pub returns-in-Full-clause-up : goal.returns-in-Full-clause-up
returns-in-Full-clause-up g c = λ some. c.in_ok-command.ensures.up (inl (λ is. let full = c.in-Full.is in absurd (cc)))
