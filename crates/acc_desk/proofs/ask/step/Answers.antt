-- The actor answers what it was asked for.
use Rattle.std.proofs.Common.{sym, subst}
use Rattle.acc_actors.specs.Asked.{step_by, HasAnswered}
use Rattle.acc_desk.specs.Asks.{event_of, act_of_ask}
use Rattle.acc_desk.specs.declared.ask.Ask.{Ask}
use Rattle.acc_desk.proofs.ask.step.Goals as goal

pub returns-in-Begin : goal.returns-in-Begin
returns-in-Begin g c =
    subst
    (λ (ask : Ask). HasAnswered g.D.Disk c.args.plan.now (step_by c.args.actor (event_of ask) (act_of_ask ask)) c.args.slot.now c.begin.new.self c.begin.result)
    (sym c.in-Begin.is) c.begin.ensures

pub returns-in-Recover : goal.returns-in-Recover
returns-in-Recover g c =
    subst
    (λ (ask : Ask). HasAnswered g.D.Disk c.args.plan.now (step_by c.args.actor (event_of ask) (act_of_ask ask)) c.args.slot.now c.recover.new.self c.recover.result)
    (sym c.in-Recover.is) c.recover.ensures

pub returns-in-Message : goal.returns-in-Message
returns-in-Message g c =
    subst
    (λ (ask : Ask). HasAnswered g.D.Disk c.args.plan.now (step_by c.args.actor (event_of ask) (act_of_ask ask)) c.args.slot.now c.take.new.self c.take.result)
    (sym c.in-Message.is) c.take.ensures
