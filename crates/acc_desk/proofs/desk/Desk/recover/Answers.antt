use Rattle.std.proofs.Common.{◌≡◌, ◌+◌, Option, Some, refl, sym, ◌∙◌, ap, subst, eq-eqb}
use Rattle.std.specs.Prelude.{IfSome}
use Rattle.std.specs.List.{slice_get}
use Rattle.acc_stamp.specs.declared.stamps.TxnId.{TxnId}
use Rattle.acc_message.specs.Items.{id_of_txn}
use Rattle.std.specs.Option.{option_copied}
use Rattle.acc_topology.specs.Sets.{is_among}
use Rattle.acc_message.specs.declared.entry.Event.TheVariants.{Recover as RecoverEvent}
use Rattle.acc_safety.proofs.BegunFacts.{id_was_begun}
use Rattle.acc_schedule.specs.Content.{Content}
use Rattle.acc_schedule.specs.declared.plan.Step.TheVariants.{Recover}
use Rattle.acc_desk.specs.Desks.{newest}
use Rattle.acc_desk.proofs.Asking.{may_recover}
use Rattle.acc_desk.proofs.Chosen.{front_itself, takes_then}
use Rattle.acc_desk.specs.Choices.{TakesCommand}
use Rattle.acc_desk.proofs.Marked.{keeps, since}
use Rattle.acc_desk.proofs.desk.Desk.recover.Goals as goal

pub take-requires-clause-may : goal.take-requires-clause-may
take-requires-clause-may g c =
    let self = c.look.new.self in
    let desk = c.in_ok-id.ensures.ok in
    let up = sym (c.is_down.ensures c.args.plan.now c.args.tape.now desk) ∙ c.if-is_down.false in
    let next = ap (λ commands. slice_get commands self.gone) c.look.ensures.same.1 ∙ ap (slice_get c.args.self.now.commands) c.look.ensures.same.2 ∙ c.requires.next in
    may_recover g.D.Disk g.J.Planned.strict c.args.plan.now self.actor (newest self.seat) self.slot self.commands self.gone desk.all desk.at up c.args.txn c.args.node next
    (sym (ap (λ (p : Content). is_among p.topology.nodes c.args.node) c.plan.view_is) ∙ sym (c.nodes.ensures.set c.args.node) ∙ sym c.contains.ensures ∙ c.if-not-contains.false) c.in-Some.body.now (sym c.body_of.ensures ∙ ap option_copied c.in-Some.is) c.in-Some-2.id (subst (λ (o : Option TxnId). IfSome o (λ id. id_of_txn (newest self.seat) c.args.txn ≡ Some id)) c.in-Some-2.is c.in_ok-id.ensures.found)

pub returns-clause-took : goal.returns-clause-took
returns-clause-took g c = λ is.
    let old = c.args.self.now in
    let self = c.look.new.self in
    let desk = c.in_ok-id.ensures.ok in
    let up = sym (c.is_down.ensures c.args.plan.now c.args.tape.now desk) ∙ c.if-is_down.false in
    let begun = id_was_begun (newest self.seat) c.args.txn c.in-Some-2.id (subst (λ (o : Option TxnId). IfSome o (λ id. id_of_txn (newest self.seat) c.args.txn ≡ Some id)) c.in-Some-2.is c.in_ok-id.ensures.found) in
    let took = c.take.ensures.took is in
    let takes = takes_then self.actor (Recover c.args.txn c.args.node) (RecoverEvent c.args.txn) old.seat self.seat c.take.new.self.seat c.look.ensures.seen c.look.ensures.mine (up, begun) (eq-eqb c.args.txn c.args.txn refl) took.1 in
    (took.0 ∙ ap (λ n. n + 1) c.look.ensures.same.2, subst (λ a. TakesCommand a (Recover c.args.txn c.args.node) old.seat c.take.new.self.seat) c.look.ensures.same.0 takes)

pub returns-in_default-clause-seen : goal.returns-in_default-clause-seen
returns-in_default-clause-seen g c = λ is. front_itself c.args.self.now.seat.seen

pub returns-then-not-contains-clause-seen : goal.returns-then-not-contains-clause-seen
returns-then-not-contains-clause-seen g c = λ is. front_itself c.args.self.now.seat.seen

pub returns-clause-seen : goal.returns-clause-seen
returns-clause-seen g c = λ is. absurd (c.take.ensures.told is)

pub returns-in_err-id-clause-marked : goal.returns-in_err-id-clause-marked
returns-in_err-id-clause-marked g c = keeps c.args.self.now c.look.new.self c.from_residual.result c.look.ensures.mark

pub returns-clause-marked : goal.returns-clause-marked
returns-clause-marked g c = since c.args.self.now c.take.new.self c.take.result c.look.new.self c.look.ensures.mark c.take.ensures.marked
