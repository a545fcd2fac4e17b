use Rattle.std.proofs.Common.{◌≡◌, ◌<◌, length, set, sym, ap, ◌∙◌, subst, arith}
use Rattle.std.proofs.Math.Seq.{map-set_same}
use Rattle.std.proofs.lemmas.List.Elements.{All-set}
use Rattle.acc_desk.specs.Desks.{run_with, IsSound, mark_of, name_of, state_of}
use Rattle.acc_desk.specs.declared.desk.Desk.{Desk}
use Rattle.acc_desk.specs.declared.turning.Turned.{Turned}
use Rattle.acc_desk.specs.declared.turning.Turned.TheVariants.{Taken, Idle, Full}
use Rattle.acc_desk.specs.Outcomes.{CameTo}
use Rattle.acc_desk.proofs.Rounds.{SoFar, all_done, after_idle, after_taken, after_full}
use Rattle.acc_desk.proofs.Marked.{on_err, marks_since, marks_turned, refuse, one_turned}
use Rattle.acc_desk.proofs.serving.round.Goals.{in-Idle, in-Taken}
use Rattle.acc_desk.proofs.serving.round.Goals as goal

pub returns-in_err-turn-clause-same : goal.returns-in_err-turn-clause-same
returns-in_err-turn-clause-same g c =
    map-set_same name_of c.loop-place.desks.items c.loop-place.place c.turn.new.self c.index_mut.result.now
    ((λ i. (c.turn.ensures.same.0 i, c.turn.ensures.same.1 i)) ∙ ap name_of c.index_mut.ensures.value)
    ∙ c.loop-place.invariant.same

pub returns-in-Full-clause-same : goal.returns-in-Full-clause-same
returns-in-Full-clause-same g c =
    map-set_same name_of c.loop-place.desks.items c.loop-place.place c.turn.new.self c.index_mut.result.now
    ((λ i. (c.turn.ensures.same.0 i, c.turn.ensures.same.1 i)) ∙ ap name_of c.index_mut.ensures.value)
    ∙ c.loop-place.invariant.same

pub returns-in-Full-clause-ok : goal.returns-in-Full-clause-ok
returns-in-Full-clause-ok g c =
    All-set (λ (desk : Desk g.row.D.Denot g.row.J.Denot). IsSound g.D.Disk (run_with g.J.Planned.strict c.args.plan.now c.args.tape.now) (state_of desk)) c.loop-place.desks.items c.loop-place.place c.turn.new.self c.in_ok-turn.ensures.ok c.loop-place.invariant.sound

pub loop-place-preserved : goal.loop-place-preserved
loop-place-preserved g c =
    let plan = c.args.plan.now in
    let tape = c.args.tape.now in
    let xs = c.args.desks.now.items in
    let ys = c.loop-place.desks.items in
    let place = c.loop-place.place in
    let new = c.turn.new.self in
    let d = c.index_mut.result.now in
    let there : place < length ys = let t = c.loop-place-test.true in let n = c.loop-place.invariant.long in omega arith in
    let turned = λ (t : Turned) (is : c.in_ok-turn.field-0 ≡ t). subst (λ (o : Desk g.row.D.Denot g.row.J.Denot). CameTo plan tape (o.actor, o.commands) t (o.seat.mine, o.gone) new.seat new.gone) c.index_mut.ensures.value
    (subst (λ so. CameTo plan tape (d.actor, d.commands) so (d.seat.mine, d.gone) new.seat new.gone) is c.in_ok-turn.ensures.came) in
    record {
      same =
          map-set_same name_of c.loop-place.desks.items c.loop-place.place c.turn.new.self c.index_mut.result.now
          ((λ i. (c.turn.ensures.same.0 i, c.turn.ensures.same.1 i)) ∙ ap name_of c.index_mut.ensures.value)
          ∙ c.loop-place.invariant.same;
      sound =
          All-set (λ (desk : Desk g.row.D.Denot g.row.J.Denot). IsSound g.D.Disk (run_with g.J.Planned.strict c.args.plan.now c.args.tape.now) (state_of desk)) c.loop-place.desks.items c.loop-place.place c.turn.new.self c.in_ok-turn.ensures.ok c.loop-place.invariant.sound;
      marks =
          map-set_same mark_of c.loop-place.desks.items c.loop-place.place c.turn.new.self c.index_mut.result.now (c.in_ok-turn.ensures.marked ∙ ap mark_of c.index_mut.ensures.value)
          ∙ c.loop-place.invariant.marks;
      came = elim c.match-branch-2.branch [
        | in-Idle w ↦ subst (λ so. SoFar so xs (set ys place new)) (sym w.all-is) (after_idle plan tape xs ys place new d there c.loop-place.all c.loop-place.invariant.came (turned Idle w.in-Idle.is))
        | in-Taken w ↦ subst (λ so. SoFar so xs (set ys place new)) (sym w.all-is) (after_taken plan tape xs ys place new d there c.loop-place.all c.loop-place.invariant.came (turned Taken w.in-Taken.is))
      ];
      long = c.loop-place.invariant.long;
    }

pub returns-in-Full-clause-came : goal.returns-in-Full-clause-came
returns-in-Full-clause-came g c =
    let plan = c.args.plan.now in
    let tape = c.args.tape.now in
    let xs = c.args.desks.now.items in
    let ys = c.loop-place.desks.items in
    let place = c.loop-place.place in
    let new = c.turn.new.self in
    let d = c.index_mut.result.now in
    let there : place < length ys = let t = c.loop-place-test.true in let n = c.loop-place.invariant.long in omega arith in
    let value = c.index_mut.ensures.value in
    let turned = subst (λ (o : Desk g.row.D.Denot g.row.J.Denot). CameTo plan tape (o.actor, o.commands) Full (o.seat.mine, o.gone) new.seat new.gone) value
    (subst (λ so. CameTo plan tape (d.actor, d.commands) so (d.seat.mine, d.gone) new.seat new.gone) c.in-Full.is c.in_ok-turn.ensures.came) in
    after_full plan tape xs ys place new d there c.loop-place.all c.loop-place.invariant.came
    (c.turn.ensures.same.0 ∙ ap (λ (o : Desk g.row.D.Denot g.row.J.Denot). o.actor) value) (c.turn.ensures.same.1 ∙ ap (λ (o : Desk g.row.D.Denot g.row.J.Denot). o.commands) value) turned

pub returns-clause-came : goal.returns-clause-came
returns-clause-came g c = all_done c.args.plan.now c.args.tape.now c.args.desks.now.items c.loop-place.desks.items c.loop-place.all c.loop-place.invariant.came

pub returns-in_err-turn-clause-err : goal.returns-in_err-turn-clause-err
returns-in_err-turn-clause-err g c = on_err c.from_residual.result (one_turned g.D.Disk g.J.Planned.strict c.args.plan.now c.args.tape.now c.loop-place.desks.items c.loop-place.place c.turn.new.self c.loop-place.invariant.sound c.in_err-turn.ensures.err)

pub returns-in_err-turn-clause-marked : goal.returns-in_err-turn-clause-marked
returns-in_err-turn-clause-marked g c =
    let zs = set c.loop-place.desks.items c.loop-place.place c.turn.new.self in
    refuse c.from_residual.result c.args.desks.now.items zs _ c.from_residual.ensures.1
    (marks_since c.args.desks.now.items c.loop-place.desks.items c.loop-place.invariant.marks zs
    (marks_turned c.loop-place.desks.items c.loop-place.place c.turn.new.self c.index_mut.result.now c.index_mut.ensures.value c.in_err-turn.ensures.marked))

pub returns-in-Full-clause-marked : goal.returns-in-Full-clause-marked
returns-in-Full-clause-marked g c =
    map-set_same mark_of c.loop-place.desks.items c.loop-place.place c.turn.new.self c.index_mut.result.now (c.in_ok-turn.ensures.marked ∙ ap mark_of c.index_mut.ensures.value)
    ∙ c.loop-place.invariant.marks
