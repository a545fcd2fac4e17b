use Rattle.std.proofs.Common.{IfOk, sym, subst}
use Rattle.acc_message.specs.declared.entry.Event.TheVariants.{Message as MessageEvent}
use Rattle.acc_message.specs.NodeRules.{Takes}
use Rattle.acc_actors.specs.Asked.{step_by, MayAsk, Weighs}
use Rattle.acc_desk.specs.Asks.{event_of, act_of_ask}
use Rattle.acc_desk.specs.declared.ask.Ask.{Ask}
use Rattle.acc_desk.proofs.Weighing.{may_ask_behind, weighs_alone}
use Rattle.acc_desk.proofs.ask.weigh.Goals as goal

pub weigh_take-requires : goal.weigh_take-requires
weigh_take-requires g c =
    may_ask_behind g.D.Disk c.args.plan.now c.args.actor (MessageEvent c.in-Message.number) (Takes c.in-Message.message.now) c.args.slot.now
    (subst (λ (ask : Ask). MayAsk g.D.Disk c.args.plan.now (step_by c.args.actor (event_of ask) (act_of_ask ask)) c.args.slot.now) c.in-Message.is c.requires)

pub returns-in-Message : goal.returns-in-Message
returns-in-Message g c =
    subst
    (λ (ask : Ask). IfOk c.weigh_take.result (Weighs g.D.Disk c.args.plan.now (step_by c.args.actor (event_of ask) (act_of_ask ask)) c.args.slot.now))
    (sym c.in-Message.is)
    (weighs_alone g.D.Disk c.args.plan.now c.args.actor (MessageEvent c.in-Message.number) (Takes c.in-Message.message.now) c.args.slot.now c.weigh_take.result c.weigh_take.ensures)
