-- One moment more after the last step.
use Rattle.std.proofs.Common.{◌≡◌, ◌+◌, false, true, length, refl, sym, ◌∙◌, ap, subst, arith}
use Rattle.std.specs.List.{AllByRecursion}
use Rattle.acc_schedule.specs.Content.{Content}
use Rattle.acc_glance.specs.declared.visits.Visitor.{Visitor}
use Rattle.acc_glance.specs.Stages.{has_ended}
use Rattle.acc_glance.proofs.Ended.{all_pass, under_way_ended}
use Rattle.acc_glance.proofs.Moments.{any_more, as_it_is, still_under_way}
use Rattle.acc_glance.proofs.looking.finish_visits.Goals as goal

pub loop-more-init : goal.loop-more-init
loop-more-init g c =
    record { few = omega arith; looks = refl; replicas = c.requires.replicas; under_way = λ strictly h. as_it_is g.D.Disk c.args.plan.now strictly c.args.cluster.now c.args.visitors.now.items h }

pub loop-more-preserved : goal.loop-more-preserved
loop-more-preserved g c =
    record {
      few = omega (arith, c.loop-more-test.true);
      looks = c.in_ok-visit_all.ensures.looks ∙ c.loop-more.invariant.looks;
      replicas = c.in_ok-visit_all.ensures.replicas;
      under_way = λ strictly h.
          still_under_way g.D.Disk c.args.plan.now strictly c.args.cluster.now c.loop-more.visitors.items c.visit_all.new.visitors.items c.loop-more.more _
          (ap (λ n. n + c.loop-more.more) (c.len-steps.ensures ∙ ap (λ (p : Content). length p.steps) c.plan.view_is)) c.in_ok-visit_all.ensures.led (c.loop-more.invariant.under_way strictly h);
    }

pub returns-then-are_over-clause-ok : goal.returns-then-are_over-clause-ok
returns-then-are_over-clause-ok g c = λ strictly h.
    any_more g.D.Disk c.args.plan.now strictly c.args.cluster.now c.loop-more.visitors.items c.loop-more.more (c.loop-more.invariant.under_way strictly h)

pub returns-then-are_over-clause-ended : goal.returns-then-are_over-clause-ended
returns-then-are_over-clause-ended g c = λ h.
    subst (AllByRecursion (λ (v : Visitor). has_ended v.stage ≡ true)) c.as_slice.ensures.value
    (all_pass (λ (v : Visitor). has_ended v.stage) c.as_slice.result.now (sym c.if-are_over.ensures))

pub returns-clause-ended : goal.returns-clause-ended
returns-clause-ended g c = λ h.
    under_way_ended g.D.Disk c.args.plan.now c.args.cluster.now c.args.visitors.now.items c.loop-more.visitors.items c.loop-more.more
    (omega (arith, c.loop-more-test.false, c.loop-more.auto.more-end, c.loop-more.invariant.few)) c.loop-more.invariant.looks c.loop-more.invariant.replicas c.requires.in_time
    (c.loop-more.invariant.under_way false h)

pub returns-clause-ok : goal.returns-clause-ok
returns-clause-ok g c = λ strictly h.
    any_more g.D.Disk c.args.plan.now strictly c.args.cluster.now c.loop-more.visitors.items c.loop-more.more (c.loop-more.invariant.under_way strictly h)
