-- One moment and one step more, or a limit inside the step.
use Rattle.std.proofs.Common.{◌+◌, true, false, take, drop, get_or, refl, sym, ◌∙◌, ap, subst, arith}
use Rattle.std.proofs.lemmas.List.{take_more}
use Rattle.acc_schedule.specs.Content.{Content}
use Rattle.acc_schedule.specs.declared.plan.Step.TheVariants.{Begin}
use Rattle.acc_run.specs.Taken.{HasTaken, HasTakenStrictly}
use Rattle.acc_run.proofs.Taking.{GoOn, GoOnStrictly, none_taken, one_more, if_limit_ends, none_taken_strictly, one_more_strictly, if_limit_ends_strictly, at_most, place_is, split_at, handed_on}
use Rattle.acc_glance.proofs.Passing.{begins_under_way}
use Rattle.acc_glance.proofs.Moments.{full_under_way, next_under_way, next_under_way_strictly}
use Rattle.acc_glance.proofs.looking.take_steps.Goals as goal

pub loop-step-init : goal.loop-step-init
loop-step-init g c =
    let items = c.as_slice-step-items.ensures ∙ ap (λ (p : Content). p.steps) c.plan.view_is in
    record {
      taken = none_taken g.D.Disk c.args.plan.now c.args.cluster.now c.requires.stands;
      strictly = λ stands. none_taken_strictly g.D.Disk c.args.plan.now c.args.cluster.now stands;
      looks = refl;
      replicas = c.requires.replicas;
      under_way = begins_under_way g.D.Disk c.args.plan.now false c.args.cluster.now c.args.visitors.now.items c.requires.stands c.requires.begins;
      strictly_under_way = λ stands. begins_under_way g.D.Disk c.args.plan.now true c.args.cluster.now c.args.visitors.now.items stands c.requires.begins;
      items = items;
      number = refl;
      few = at_most c.as_slice-step-items.result.now c.args.plan.now.steps 200000 items c.requires.is_plan.few_steps;
    }

pub step-requires-clause-standing : goal.step-requires-clause-standing
step-requires-clause-standing g c = (c.loop-step.invariant.taken.last, c.loop-step.invariant.taken.stands)

pub returns-in_err-step-clause-limit : goal.returns-in_err-step-clause-limit
returns-in_err-step-clause-limit g c =
    let xs = c.as_slice-step-items.result.now in
    let i = c.loop-step.step-index in
    handed_on _ c.from_residual-in_err-step.result c.in_err-step.field-0.0 c.from_residual-in_err-step.ensures.1
    (if_limit_ends g.D.Disk c.args.plan.now
    (record { answers = c.runs_are_made_step_by_step.ensures.answers; step = c.runs_are_made_step_by_step.ensures.step; front = c.fronts_are_made_step_by_step.ensures.step })
    (take i xs) (get_or xs i (Begin 0)) c.loop-step.number (place_is xs i c.loop-step.number c.loop-step.invariant.number c.loop-step-test.true) (drop (i + 1) xs)
    (sym c.loop-step.invariant.items ∙ split_at xs i (Begin 0) c.loop-step-test.true) c.loop-step.cluster c.step.new.self c.loop-step.invariant.taken c.in_err-step.field-0.0 c.in_err-step.ensures.limit)

pub returns-in_err-step-clause-strict_limit : goal.returns-in_err-step-clause-strict_limit
returns-in_err-step-clause-strict_limit g c = λ stands.
    let xs = c.as_slice-step-items.result.now in
    let i = c.loop-step.step-index in
    handed_on _ c.from_residual-in_err-step.result c.in_err-step.field-0.0 c.from_residual-in_err-step.ensures.1
    (if_limit_ends_strictly g.D.Disk c.args.plan.now
    (record { step = c.strict_runs_are_made_step_by_step.ensures; front = c.a_limit_or_the_whole_over_strict_disks.ensures.step })
    (take i xs) (get_or xs i (Begin 0)) c.loop-step.number (place_is xs i c.loop-step.number c.loop-step.invariant.number c.loop-step-test.true) (drop (i + 1) xs)
    (sym c.loop-step.invariant.items ∙ split_at xs i (Begin 0) c.loop-step-test.true) c.loop-step.cluster c.step.new.self (c.loop-step.invariant.strictly stands) c.in_err-step.field-0.0 c.in_err-step.ensures.strict_limit)

pub overflow_add-number : goal.overflow_add-number
overflow_add-number g c = omega (arith, c.loop-step.invariant.number, c.loop-step-test.true, c.loop-step.invariant.few)

pub loop-step-preserved : goal.loop-step-preserved
loop-step-preserved g c =
    let xs = c.as_slice-step-items.result.now in
    let i = c.loop-step.step-index in
    let plan = c.args.plan.now in
    let law : GoOn =
    record { answers = c.runs_are_made_step_by_step.ensures.answers; step = c.runs_are_made_step_by_step.ensures.step; front = c.fronts_are_made_step_by_step.ensures.step } in
    let strict_law : GoOnStrictly =
    record { step = c.strict_runs_are_made_step_by_step.ensures; front = c.a_limit_or_the_whole_over_strict_disks.ensures.step } in
    record {
      taken =
          subst (HasTaken g.D.Disk plan c.step.new.self) (sym (take_more xs i (Begin 0) c.loop-step-test.true))
          (one_more g.D.Disk plan law
          (take i xs) (get_or xs i (Begin 0)) c.loop-step.number (place_is xs i c.loop-step.number c.loop-step.invariant.number c.loop-step-test.true)
          c.loop-step.cluster c.step.new.self c.loop-step.invariant.taken c.in_ok-step.ensures.ok);
      strictly = λ stands.
          subst (HasTakenStrictly g.D.Disk plan c.step.new.self)
          (sym (take_more xs i (Begin 0) c.loop-step-test.true))
          (one_more_strictly g.D.Disk plan strict_law
          (take i xs) (get_or xs i (Begin 0)) c.loop-step.number (place_is xs i c.loop-step.number c.loop-step.invariant.number c.loop-step-test.true)
          c.loop-step.cluster c.step.new.self (c.loop-step.invariant.strictly stands) c.in_ok-step.ensures.strict);
      looks = c.in_ok-visit_all.ensures.looks ∙ c.loop-step.invariant.looks;
      replicas = c.in_ok-visit_all.ensures.replicas;
      under_way =
          next_under_way g.D.Disk plan xs i (Begin 0) c.loop-step.number c.loop-step.invariant.items c.loop-step-test.true c.loop-step.invariant.number c.loop-step.cluster
          c.step.new.self c.loop-step.visitors.items c.visit_all.new.visitors.items c.in_ok-visit_all.ensures.led law c.in_ok-step.ensures.ok c.loop-step.invariant.under_way;
      strictly_under_way = λ stands.
          next_under_way_strictly g.D.Disk plan xs i (Begin 0) c.loop-step.number c.loop-step.invariant.items
          c.loop-step-test.true c.loop-step.invariant.number c.loop-step.cluster c.step.new.self c.loop-step.visitors.items c.visit_all.new.visitors.items
          c.in_ok-visit_all.ensures.led strict_law c.strict_disks_give_answers.ensures.follows c.in_ok-step.ensures.strict (c.loop-step.invariant.strictly_under_way stands);
      items = c.loop-step.invariant.items;
      number = ap (λ n. n + 1) c.loop-step.invariant.number;
      few = c.loop-step.invariant.few;
    }

pub returns-clause-ok : goal.returns-clause-ok
returns-clause-ok g c =
    full_under_way g.D.Disk c.args.plan.now false c.as_slice-step-items.result.now c.loop-step.step-index c.loop-step.cluster c.loop-step.visitors.items
    c.loop-step.invariant.items (omega (arith, c.loop-step-test.false, c.loop-step.auto.step-index-end)) c.loop-step.invariant.under_way

pub returns-clause-strict : goal.returns-clause-strict
returns-clause-strict g c = λ stands.
    full_under_way g.D.Disk c.args.plan.now true c.as_slice-step-items.result.now c.loop-step.step-index c.loop-step.cluster c.loop-step.visitors.items
    c.loop-step.invariant.items (omega (arith, c.loop-step-test.false, c.loop-step.auto.step-index-end)) (c.loop-step.invariant.strictly_under_way stands)
