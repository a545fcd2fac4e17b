use Rattle.std.proofs.Common.{◌≢◌, ◌⊎◌, List, Some, inl, inr, refl, sym, ◌∙◌, ap, subst}
use Rattle.std.specs.List.{slice_get}
use Rattle.acc_schedule.specs.declared.plan.Step.{Step}
use Rattle.acc_schedule.specs.declared.plan.Step.TheVariants.{Begin, Recover, Restart}
use mathlib.Core.List.{IsPrefix}
use Rattle.acc_message.specs.declared.entry.Event.TheVariants.{Restart as RestartEvent}
use Rattle.acc_message.specs.declared.item.Item.{Item}
use Rattle.acc_tape.specs.Seats.{SeatView}
use Rattle.acc_desk.proofs.Chosen.{front_itself, takes_now}
use Rattle.acc_desk.proofs.Next.{drop_next}
use Rattle.acc_desk.proofs.Marked.{at_turn}
use Rattle.acc_desk.proofs.desk.Desk.command.Goals as goal

pub restart-requires-clause-next : goal.restart-requires-clause-next
restart-requires-clause-next g c =
    let self = c.args.self.now in
    let command = Restart c.in-Some-Restart.field-0-0 c.in-Some-Restart.choice in
    let found = ap (λ (l : List Step). slice_get l self.gone) (sym c.as_slice.ensures) ∙ sym c.command_at.ensures ∙ c.in-Some-Restart.is ∙ ap Some c.in-Some-Restart.field-0-is in
    (command, drop_next self.commands self.gone command found, refl)

pub returns-in-Some-Begin-clause-took : goal.returns-in-Some-Begin-clause-took
returns-in-Some-Begin-clause-took g c = λ is.
    let self = c.args.self.now in
    let took = c.begin.ensures.took is in
    (Begin c.in-Some-Begin.txn, ap (λ (l : List Step). slice_get l self.gone) (sym c.as_slice.ensures) ∙ sym c.command_at.ensures ∙ c.in-Some-Begin.is ∙ ap Some c.in-Some-Begin.field-0-is, took)

pub returns-in-Some-Recover-clause-took : goal.returns-in-Some-Recover-clause-took
returns-in-Some-Recover-clause-took g c = λ is.
    let self = c.args.self.now in
    let took = c.recover.ensures.took is in
    (Recover c.in-Some-Recover.txn c.in-Some-Recover.node, ap (λ (l : List Step). slice_get l self.gone) (sym c.as_slice.ensures) ∙ sym c.command_at.ensures ∙ c.in-Some-Recover.is ∙ ap Some c.in-Some-Recover.field-0-is, took)

pub returns-in-Some-Restart-clause-took : goal.returns-in-Some-Restart-clause-took
returns-in-Some-Restart-clause-took g c = λ is.
    let self = c.args.self.now in
    let took = c.restart.ensures.took is in
    let command = Restart c.in-Some-Restart.field-0-0 c.in-Some-Restart.choice in
    (command, ap (λ (l : List Step). slice_get l self.gone) (sym c.as_slice.ensures) ∙ sym c.command_at.ensures ∙ c.in-Some-Restart.is ∙ ap Some c.in-Some-Restart.field-0-is, (took.0, takes_now self.actor command (RestartEvent 0) self.seat c.restart.new.self.seat tt refl took.1))

pub returns-then-is_down-clause-seen : goal.returns-then-is_down-clause-seen
returns-then-is_down-clause-seen g c = λ is. front_itself c.args.self.now.seat.seen

pub returns-in-Some-Begin-clause-seen : goal.returns-in-Some-Begin-clause-seen
returns-in-Some-Begin-clause-seen g c = λ is. subst (λ (s : SeatView Item). IsPrefix c.args.self.now.seat.seen s.seen) (sym (c.begin.ensures.seen is)) (front_itself c.args.self.now.seat.seen)

pub returns-in-Some-Restart-clause-seen : goal.returns-in-Some-Restart-clause-seen
returns-in-Some-Restart-clause-seen g c = λ is. absurd (c.restart.ensures.told is)

pub returns-in_default-clause-seen : goal.returns-in_default-clause-seen
returns-in_default-clause-seen g c = λ is. front_itself c.args.self.now.seat.seen

pub returns-in-Some-Begin-clause-up : goal.returns-in-Some-Begin-clause-up
returns-in-Some-Begin-clause-up g c = λ h. sym (c.is_down.ensures c.args.plan.now c.args.tape.now c.requires.desk) ∙ c.if-is_down.false

pub returns-in-Some-Recover-clause-up : goal.returns-in-Some-Recover-clause-up
returns-in-Some-Recover-clause-up g c = λ h. sym (c.is_down.ensures c.args.plan.now c.args.tape.now c.requires.desk) ∙ c.if-is_down.false

pub returns-in-Some-Restart-clause-up : goal.returns-in-Some-Restart-clause-up
returns-in-Some-Restart-clause-up g c = λ h. sym (c.is_down.ensures c.args.plan.now c.args.tape.now c.requires.desk) ∙ c.if-is_down.false

-- an actor that is down is idle
idle : {X P : Type 0} {x : X} → (x ≢ x) ⊎ P → P
idle (inl some) = absurd (some refl)
idle (inr up) = up

pub returns-then-is_down-clause-up : goal.returns-then-is_down-clause-up
returns-then-is_down-clause-up g c = λ h. idle h

pub returns-in_default-clause-up : goal.returns-in_default-clause-up
returns-in_default-clause-up g c = λ h. sym (c.is_down.ensures c.args.plan.now c.args.tape.now c.requires.desk) ∙ c.if-is_down.false

pub returns-in-Some-Begin-clause-marked : goal.returns-in-Some-Begin-clause-marked
returns-in-Some-Begin-clause-marked g c = at_turn c.args.self.now c.begin.new.self c.begin.result c.begin.ensures.marked

pub returns-in-Some-Recover-clause-marked : goal.returns-in-Some-Recover-clause-marked
returns-in-Some-Recover-clause-marked g c = at_turn c.args.self.now c.recover.new.self c.recover.result c.recover.ensures.marked
