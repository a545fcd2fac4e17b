use Rattle.std.proofs.Common.{refl, sym, ◌∙◌, ap, eq-eqb}
use Rattle.acc_message.specs.declared.entry.Event.TheVariants.{Begin as BeginEvent}
use Rattle.acc_schedule.specs.declared.plan.Step.TheVariants.{Begin}
use Rattle.std.specs.Option.{option_copied}
use Rattle.acc_desk.specs.Desks.{newest}
use Rattle.acc_desk.proofs.Asking.{begin_fresh, may_begin}
use Rattle.acc_desk.proofs.Chosen.{takes_now}
use Rattle.acc_desk.proofs.desk.Desk.begin.Goals as goal

pub take-requires-clause-may : goal.take-requires-clause-may
take-requires-clause-may g c =
    let self = c.args.self.now in
    may_begin g.D.Disk g.J.Planned.strict c.args.plan.now self.actor (newest self.seat) self.slot self.commands self.gone c.requires.desk.all c.requires.desk.at c.requires.up c.args.txn c.requires.next
    c.in-Some.home (sym c.home_of.ensures ∙ c.in-Some.is) c.in-Some-body_of.body.now (sym c.body_of.ensures ∙ ap option_copied c.in-Some-body_of.is) (sym c.is_begun_before.ensures.begun ∙ c.if-is_begun_before.false)

pub returns-clause-took : goal.returns-clause-took
returns-clause-took g c = λ is.
    let self = c.args.self.now in
    let took = c.take.ensures.took is in
    let fresh =
    begin_fresh g.D.Disk g.J.Planned.strict c.args.plan.now self.actor (newest self.seat) self.slot self.commands self.gone c.requires.desk.all c.requires.desk.at c.requires.up c.args.txn c.requires.next
    c.in-Some.home (sym c.home_of.ensures ∙ c.in-Some.is) (sym c.is_begun_before.ensures.begun ∙ c.if-is_begun_before.false) in
    (took.0, takes_now self.actor (Begin c.args.txn) (BeginEvent c.args.txn) self.seat c.take.new.self.seat (c.requires.up, fresh) (eq-eqb c.args.txn c.args.txn refl) took.1)

pub returns-clause-seen : goal.returns-clause-seen
returns-clause-seen g c = λ is. absurd (c.take.ensures.told is)
