use Rattle.std.proofs.Common.{◌≢◌, Bool, List, [], ◌∷◌, true, Option, inr, refl, ap, ◌∙◌, subst}
use Rattle.acc_stamp.specs.declared.actors.Actor.{Actor}
use Rattle.acc_message.specs.declared.entry.Event.{Event}
use Rattle.acc_payloads.specs.declared.stops.Unsent.{Unsent}
use Rattle.acc_schedule_runs.specs.Situations.{Situation}
use Rattle.acc_schedule_runs.specs.Disks.{Disks}
use Rattle.acc_actors.specs.Slots.{IsStrictSlot, is_down_in}
use Rattle.acc_actors.specs.Asked.{over_disks, AreSteps, IsStaged, HasSettled, HasSettledStrictly}
use Rattle.acc_message.specs.Run.{Cluster}
use Rattle.acc_desk.specs.Groups.{Joining, events_of}
use Rattle.acc_desk.proofs.Joining.{settle_asks, settled_none, settled_some}
use Rattle.acc_desk.proofs.Marked.{marked}
use Rattle.acc_desk.proofs.desk.Desk.settle.Goals as goal

pub settle-requires : goal.settle-requires
settle-requires g c =
    let self = c.args.self.now in
    let q = c.requires.group in
    settle_asks g.D.Disk g.J.Planned.strict c.args.plan.now c.args.tape.now c.requires.limits self.actor self.commands self.gone q.0 self.slot q.1 q.2 c.args.hold self.seat q.4

pub let_go-requires-clause-seated : goal.let_go-requires-clause-seated
let_go-requires-clause-seated g c = c.requires.group.4.desk.seated

pub enter_group-requires-clause-group : goal.enter_group-requires-clause-group
enter_group-requires-clause-group g c =
    let self = c.args.self.now in
    let q = c.requires.group in
    let settled = subst (λ (o : Option (List Unsent)). (s : Situation) (staged : List Event) → IsStaged g.D.Disk c.args.plan.now s self.actor staged self.slot → HasSettled g.D.Disk c.args.plan.now s self.actor staged c.settle.new.self o) c.in-Some.is c.in-Ok.ensures.ok in
    let strictly = subst (λ (o : Option (List Unsent)). (s : Situation) (staged : List Event) (disks : Disks) → IsStaged g.D.Disk c.args.plan.now s self.actor staged self.slot → staged ≢ []
    → IsStrictSlot g.D.Disk c.args.plan.now s disks self.actor self.slot
    → HasSettledStrictly g.D.Disk c.args.plan.now (over_disks s disks) self.actor staged c.settle.new.self o) c.in-Some.is c.in-Ok.ensures.strict in (
      events_of q.1,
      settled_some g.D.Disk g.J.Planned.strict c.args.plan.now c.args.tape.now c.requires.limits self.actor self.commands self.gone q.0 self.slot q.1 q.2 c.args.hold self.seat q.4 c.settle.new.self c.in-Some.unsent settled strictly q.3,
    )

pub enter_down-requires-clause-group : goal.enter_down-requires-clause-group
enter_down-requires-clause-group g c =
    let self = c.args.self.now in
    let q = c.requires.group in
    let settled = subst (λ (o : Option (List Unsent)). (s : Situation) (staged : List Event) → IsStaged g.D.Disk c.args.plan.now s self.actor staged self.slot → HasSettled g.D.Disk c.args.plan.now s self.actor staged c.settle.new.self o) c.in-None.is c.in-Ok.ensures.ok in
    let strictly = subst (λ (o : Option (List Unsent)). (s : Situation) (staged : List Event) (disks : Disks) → IsStaged g.D.Disk c.args.plan.now s self.actor staged self.slot → staged ≢ []
    → IsStrictSlot g.D.Disk c.args.plan.now s disks self.actor self.slot
    → HasSettledStrictly g.D.Disk c.args.plan.now (over_disks s disks) self.actor staged c.settle.new.self o) c.in-None.is c.in-Ok.ensures.strict in (
      q.0,
      q.1,
      settled_none g.D.Disk g.J.Planned.strict c.args.plan.now c.args.tape.now c.requires.limits self.actor self.commands self.gone q.0 self.slot q.1 q.2 c.args.hold self.seat q.4 c.settle.new.self settled strictly q.3,
    )

-- a group that isn't empty gives a step
some_given : (cluster : Cluster) (s : Situation) (a : Actor) (joinings : List Joining) (lost : Bool) (given : List Unsent) → joinings ≢ [] → AreSteps cluster s a (events_of joinings) lost given → given ≢ []
some_given cluster s a [] lost given some steps = absurd (some refl)
some_given cluster s a (j ∷ joinings) lost [] some steps = absurd steps
some_given cluster s a (j ∷ joinings) lost (one ∷ given) some steps = λ none. absurd (cc)

pub returns-in_default-clause-err : goal.returns-in_default-clause-err
returns-in_default-clause-err g c = marked g.D.Disk g.J.Planned.strict c.args.plan.now c.args.tape.now (record c.let_go.new.self { unsound = true }) c.let_go.ensures.seated refl

pub returns-in_default-clause-marked : goal.returns-in_default-clause-marked
returns-in_default-clause-marked g c = λ _. inr (ap is_down_in c.let_go.ensures.same.1 ∙ c.in_default.ensures.refused c.requires.group.4.kind)

pub returns-in-Some-clause-longer : goal.returns-in-Some-clause-longer
returns-in-Some-clause-longer g c =
    let self = c.args.self.now in
    let q = c.requires.group in
    let settled = subst (λ (o : Option (List Unsent)). (s : Situation) (staged : List Event) → IsStaged g.D.Disk c.args.plan.now s self.actor staged self.slot → HasSettled g.D.Disk c.args.plan.now s self.actor staged c.settle.new.self o) c.in-Some.is c.in-Ok.ensures.ok in
    let strictly = subst (λ (o : Option (List Unsent)). (s : Situation) (staged : List Event) (disks : Disks) → IsStaged g.D.Disk c.args.plan.now s self.actor staged self.slot → staged ≢ []
    → IsStrictSlot g.D.Disk c.args.plan.now s disks self.actor self.slot
    → HasSettledStrictly g.D.Disk c.args.plan.now (over_disks s disks) self.actor staged c.settle.new.self o) c.in-Some.is c.in-Ok.ensures.strict in
    let desk = settled_some g.D.Disk g.J.Planned.strict c.args.plan.now c.args.tape.now c.requires.limits self.actor self.commands self.gone q.0 self.slot q.1 q.2 c.args.hold self.seat q.4 c.settle.new.self c.in-Some.unsent settled strictly q.3 in
    c.enter_group.ensures.longer (some_given _ _ _ q.1 _ c.in-Some.unsent q.3 desk.entering.steps)

pub returns-in-Some-clause-entered : goal.returns-in-Some-clause-entered
returns-in-Some-clause-entered g c = λ first joinings used some gathering.
    let self = c.args.self.now in
    let settled = subst (λ (o : Option (List Unsent)). (s : Situation) (staged : List Event) → IsStaged g.D.Disk c.args.plan.now s self.actor staged self.slot → HasSettled g.D.Disk c.args.plan.now s self.actor staged c.settle.new.self o) c.in-Some.is c.in-Ok.ensures.ok in
    let strictly = subst (λ (o : Option (List Unsent)). (s : Situation) (staged : List Event) (disks : Disks) → IsStaged g.D.Disk c.args.plan.now s self.actor staged self.slot → staged ≢ []
    → IsStrictSlot g.D.Disk c.args.plan.now s disks self.actor self.slot
    → HasSettledStrictly g.D.Disk c.args.plan.now (over_disks s disks) self.actor staged c.settle.new.self o) c.in-Some.is c.in-Ok.ensures.strict in
    c.enter_group.ensures.entered (events_of joinings)
    (settled_some g.D.Disk g.J.Planned.strict c.args.plan.now c.args.tape.now c.requires.limits self.actor self.commands self.gone first self.slot joinings used c.args.hold self.seat gathering c.settle.new.self c.in-Some.unsent settled strictly some)

pub returns-in-None-clause-entered : goal.returns-in-None-clause-entered
returns-in-None-clause-entered g c = λ first joinings used some gathering. c.enter_down.ensures.entered (events_of joinings)
