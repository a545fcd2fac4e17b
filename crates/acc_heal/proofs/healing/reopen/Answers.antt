-- One step of the reopening more.
use Rattle.std.proofs.Common.{◌≡◌, ◌+◌, drop, get_or, ◌∙◌, subst}
use Rattle.std.proofs.lemmas.List.{drop_more, drop_all}
use Rattle.acc_schedule.specs.declared.plan.Step.TheVariants.{Begin}
use Rattle.acc_schedule_runs.specs.Situations.{Situation, whole}
use Rattle.acc_run.proofs.Taking.{handed_on}
use Rattle.acc_cluster.specs.Stands.{StandsFor}
use Rattle.acc_heal_laws.specs.Stages.{reopening}
use Rattle.acc_heal.specs.Places.{IsReopening, IsReopeningBy, StandsIn, Leads}
use Rattle.acc_heal.proofs.WholeHealing.{reopening_stands, reopening_led, step_stands, step_ends, step_led, step_left_stands}
use Rattle.acc_heal.proofs.healing.reopen.Goals as goal

pub loop-step-init : goal.loop-step-init
loop-step-init g c =
    let steps = c.as_slice-step-items.result.now in
    let told : (s : Situation) → StandsFor g.D.Disk c.args.plan.now c.args.cluster.now s → steps ≡ reopening c.args.plan.now (whole s) =
    λ s stands. c.as_slice-step-items.ensures.value ∙ c.in_ok-steps.ensures s stands in
    record {
      standing = reopening_stands g.D.Disk c.args.plan.now c.args.cluster.now c.args.number.now steps told c.requires.standing;
      leads = reopening_led g.D.Disk c.args.plan.now c.args.cluster.now c.args.number.now steps told;
    }

pub take-requires-clause-standing : goal.take-requires-clause-standing
take-requires-clause-standing g c =
    let xs = c.as_slice-step-items.result.now in
    let i = c.loop-step.step-index in
    step_stands g.D.Disk c.args.plan.now c.args.number.now c.loop-step.number c.loop-step.number (get_or xs i (Begin 0)) (drop (i + 1) xs) c.args.cluster.now
    c.loop-step.cluster
    (subst (λ left. StandsIn g.D.Disk c.args.plan.now c.loop-step.cluster (IsReopeningBy c.loop-step.number left)) (drop_more xs i (Begin 0) c.loop-step-test.true)
    c.loop-step.invariant.standing)

pub returns-in_err-take-clause-limit : goal.returns-in_err-take-clause-limit
returns-in_err-take-clause-limit g c =
    let xs = c.as_slice-step-items.result.now in
    let i = c.loop-step.step-index in
    handed_on _ c.from_residual-in_err-take.result c.in_err-take.field-0.0 c.from_residual-in_err-take.ensures.1
    (step_ends g.D.Disk c.args.plan.now c.args.number.now c.loop-step.number c.loop-step.number (get_or xs i (Begin 0)) (drop (i + 1) xs) c.args.cluster.now
    c.loop-step.cluster
    (subst
    (λ left.
    Leads g.D.Disk c.args.plan.now c.args.cluster.now c.loop-step.cluster (IsReopening c.args.plan.now c.args.number.now)
    (λ place now. IsReopeningBy c.loop-step.number left now)) (drop_more xs i (Begin 0) c.loop-step-test.true) c.loop-step.invariant.leads) c.in_err-take.field-0.0
    c.in_err-take.ensures.limit)

pub loop-step-preserved : goal.loop-step-preserved
loop-step-preserved g c =
    let xs = c.as_slice-step-items.result.now in
    let i = c.loop-step.step-index in
    record {
      standing =
          step_left_stands g.D.Disk c.args.plan.now c.args.number.now c.loop-step.number c.take.new.number (get_or xs i (Begin 0)) (drop (i + 1) xs) c.args.cluster.now
          c.loop-step.cluster c.take.new.cluster c.in_ok-take.ensures.ok
          (subst (λ left. StandsIn g.D.Disk c.args.plan.now c.loop-step.cluster (IsReopeningBy c.loop-step.number left))
          (drop_more xs i (Begin 0) c.loop-step-test.true) c.loop-step.invariant.standing);
      leads =
          step_led g.D.Disk c.args.plan.now c.args.number.now c.loop-step.number c.take.new.number (get_or xs i (Begin 0)) (drop (i + 1) xs) c.args.cluster.now
          c.loop-step.cluster
          (subst
          (λ left.
          Leads g.D.Disk c.args.plan.now c.args.cluster.now c.loop-step.cluster (IsReopening c.args.plan.now c.args.number.now)
          (λ place now. IsReopeningBy c.loop-step.number left now)) (drop_more xs i (Begin 0) c.loop-step-test.true) c.loop-step.invariant.leads) c.take.new.cluster
          c.in_ok-take.ensures.ok;
    }

pub returns-clause-ok : goal.returns-clause-ok
returns-clause-ok g c =
    subst
    (λ left.
    Leads g.D.Disk c.args.plan.now c.args.cluster.now c.loop-step.cluster (IsReopening c.args.plan.now c.args.number.now)
    (λ place now. IsReopeningBy c.loop-step.number left now))
    (drop_all c.loop-step.step-index c.as_slice-step-items.result.now c.loop-step-test.false) c.loop-step.invariant.leads
