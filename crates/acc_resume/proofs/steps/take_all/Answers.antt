-- One step more, or a limit inside it.
use Rattle.std.proofs.Common.{List, ◌+◌, take, drop, get_or, refl, sym, ◌∙◌, ap, subst, arith}
use Rattle.std.proofs.lemmas.List.{take_more}
use Rattle.acc_message.specs.declared.item.Item.{Item}
use Rattle.acc_schedule.specs.Content.{Content}
use Rattle.acc_schedule.specs.declared.plan.Step.TheVariants.{Begin}
use Rattle.acc_run.proofs.Taking.{at_most, place_is, split_at, all_taken, handed_on}
use Rattle.acc_resume.specs.Taken.{HasTakenAfter}
use Rattle.acc_resume.proofs.Taking.{none_taken, one_more, limits_end}
use Rattle.acc_resume.proofs.steps.take_all.Goals as goal

pub loop-step-init : goal.loop-step-init
loop-step-init g c =
    let items = c.as_slice-step-items.ensures ∙ ap (λ (p : Content). p.steps) c.plan.view_is in
    record {
      tested = c.requires.tested;
      taken = λ (earlier : List Item) stands. none_taken g.D.Disk c.args.plan.now earlier c.args.cluster.now.cluster stands;
      items = items;
      number = refl;
      few = at_most c.as_slice-step-items.result.now c.args.plan.now.steps 200000 items c.requires.is_plan.few_steps;
    }

pub step-requires-clause-tested : goal.step-requires-clause-tested
step-requires-clause-tested g c = c.loop-step.invariant.tested

pub returns-in_err-step-clause-limit : goal.returns-in_err-step-clause-limit
returns-in_err-step-clause-limit g c =
    let xs = c.as_slice-step-items.result.now in
    let i = c.loop-step.step-index in
    handed_on _ c.from_residual.result c.in_err-step.field-0.0 c.from_residual.ensures.1
    (limits_end g.D.Disk c.args.plan.now
    (record { step = c.strict_runs_are_made_step_by_step.ensures; front = c.a_limit_or_the_whole_over_strict_disks.ensures.step })
    (take i xs) (get_or xs i (Begin 0)) c.loop-step.number (place_is xs i c.loop-step.number c.loop-step.invariant.number c.loop-step-test.true) (drop (i + 1) xs)
    (sym c.loop-step.invariant.items ∙ split_at xs i (Begin 0) c.loop-step-test.true) c.args.cluster.now.cluster c.loop-step.cluster.cluster c.step.new.self.cluster c.loop-step.invariant.taken
    c.in_err-step.field-0.0 c.in_err-step.ensures.strict_limit)

pub overflow_add-number : goal.overflow_add-number
overflow_add-number g c = omega (arith, c.loop-step.invariant.number, c.loop-step-test.true, c.loop-step.invariant.few)

pub loop-step-preserved : goal.loop-step-preserved
loop-step-preserved g c =
    let xs = c.as_slice-step-items.result.now in
    let i = c.loop-step.step-index in
    record {
      tested = c.in_ok-step.ensures.tested;
      taken = λ (earlier : List Item) stands.
          subst (HasTakenAfter g.D.Disk c.args.plan.now earlier c.step.new.self.cluster) (sym (take_more xs i (Begin 0) c.loop-step-test.true))
          (one_more g.D.Disk c.args.plan.now earlier
          (record { step = c.strict_runs_are_made_step_by_step.ensures; front = c.a_limit_or_the_whole_over_strict_disks.ensures.step })
          (take i xs) (get_or xs i (Begin 0)) c.loop-step.number (place_is xs i c.loop-step.number c.loop-step.invariant.number c.loop-step-test.true)
          c.loop-step.cluster.cluster c.step.new.self.cluster (c.loop-step.invariant.taken earlier stands) c.in_ok-step.ensures.strict);
      items = c.loop-step.invariant.items;
      number = ap (λ n. n + 1) c.loop-step.invariant.number;
      few = c.loop-step.invariant.few;
    }

pub returns-clause-ok : goal.returns-clause-ok
returns-clause-ok g c = λ (earlier : List Item) stands.
    subst (HasTakenAfter g.D.Disk c.args.plan.now earlier c.loop-step.cluster.cluster)
    (all_taken c.as_slice-step-items.result.now c.args.plan.now.steps c.loop-step.step-index c.loop-step.invariant.items c.loop-step-test.false) (c.loop-step.invariant.taken earlier stands)
