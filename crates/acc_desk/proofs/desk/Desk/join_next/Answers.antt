use Rattle.std.proofs.Common.{◌+◌, Result, Ok, Err, refl, arith}
use Rattle.std.specs.Prelude.{OnErr}
use Rattle.acc_message.specs.declared.entry.Event.TheVariants.{Message as MessageEvent}
use Rattle.acc_message.specs.NodeRules.{Takes}
use Rattle.acc_desk.specs.Groups.{Joining}
use Rattle.acc_desk.proofs.Joining.{asks_now, joins, refused}
use Rattle.acc_desk.proofs.desk.Desk.join_next.Goals as goal

-- what holds, holds after an error
on_err : {X E P : Type 0} (r : Result X E) → P → OnErr r P
on_err (Ok x) h = tt
on_err (Err e) h = h

pub prepare-requires : goal.prepare-requires
prepare-requires g c =
    let self = c.args.self.now in
    let q = c.requires.group in
    asks_now g.D.Disk g.J.Planned.strict c.args.plan.now c.args.tape.now c.requires.limits self.actor self.commands self.gone q.0 self.slot q.1 c.args.used c.args.hold self.seat q.2.gathering (record { event = MessageEvent c.args.number; act = Takes c.args.message.now }) q.2.can

pub stage-requires-clause-may : goal.stage-requires-clause-may
stage-requires-clause-may g c =
    let self = c.args.self.now in
    let q = c.requires.group in
    asks_now g.D.Disk g.J.Planned.strict c.args.plan.now c.args.tape.now c.requires.limits self.actor self.commands self.gone q.0 self.slot q.1 c.args.used c.args.hold self.seat q.2.gathering (record { event = MessageEvent c.args.number; act = Takes c.args.message.now }) q.2.can

pub returns-clause-ok : goal.returns-clause-ok
returns-clause-ok g c = λ first joinings can.
    let self = c.args.self.now in
    let weight = c.in_ok-weight.weight in
    let j : Joining = record { event = MessageEvent c.args.number; act = Takes c.args.message.now } in
    joins g.D.Disk g.J.Planned.strict c.args.plan.now c.args.tape.now c.requires.limits self.actor self.commands self.gone first self.slot joinings c.args.used c.args.hold self.seat can.gathering j can.can
    c.stage.new.self weight (c.args.used + weight) refl (let w = can.gathering.within in let f = c.if-weight-hold.false in omega arith) can.more can.few can.another c.in_ok-weight.ensures.weight c.in_ok-stage.ensures.ok c.stage.ensures.strict

pub returns-in_err-stage-clause-err : goal.returns-in_err-stage-clause-err
returns-in_err-stage-clause-err g c =
    let self = c.args.self.now in
    on_err c.from_residual-in_err-stage.result (λ first joinings can.
    refused g.D.Disk g.J.Planned.strict c.args.plan.now c.args.tape.now c.requires.limits self.actor self.commands self.gone first self.slot joinings c.args.used c.args.hold self.seat can.gathering c.stage.new.self c.in_err-stage.ensures.err c.stage.ensures.strict)
