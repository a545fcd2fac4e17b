use Rattle.std.proofs.Common.{rules, ◌<◌, ◌≤◌, ◌∷◌, length, refl, sym, ◌∙◌, ap, subst, arith}
use Rattle.std.proofs.Math.ListN.{length-set}
use Rattle.acc_glance.specs.declared.visits.Visitor.{Visitor}
use Rattle.acc_glance.specs.Visits.{HasReplicas, IsLed}
use Rattle.acc_glance.proofs.SightFacts.{each_in}
use Rattle.acc_glance.proofs.Splits.{all_changed, all_set, change_more, map_kept, next_of}
use Rattle.acc_glance.proofs.VisitFacts.{led_one, led_so}
use Rattle.acc_glance.proofs.visits.visit_all.Goals as goal

pub loop-place-init : goal.loop-place-init
loop-place-init g c = record { long = search rules; looks = refl; replicas = c.requires.replicas; led = λ s moments stands number over all. all }

pub advance-requires : goal.advance-requires
advance-requires g c =
    record {
      replicas =
          each_in (HasReplicas c.args.plan.now) c.loop-place.visitors.items c.loop-place.place c.index_mut.result.now
          (omega (arith, c.loop-place-test.true, c.loop-place.invariant.long)) c.index_mut.ensures.value c.loop-place.invariant.replicas;
    }

pub loop-place-preserved : goal.loop-place-preserved
loop-place-preserved g c =
    let xs = c.loop-place.visitors.items in
    let i = c.loop-place.place in
    let plan = c.args.plan.now in
    let old = c.index_mut.result.now in
    let v = c.advance.new.visitor in
    let less : i < length xs = omega (arith, c.loop-place-test.true, c.loop-place.invariant.long) in
    record {
      long = simp length-set c.loop-place.invariant.long;
      looks =
          map_kept (λ (v : Visitor). v.look) xs i v old less (c.in_ok-advance.ensures.look ∙ ap (λ (v : Visitor). v.look) c.index_mut.ensures.value)
          ∙ c.loop-place.invariant.looks;
      replicas = all_set (HasReplicas plan) xs i v c.in_ok-advance.ensures.replicas c.loop-place.invariant.replicas;
      led = λ s moments stands number over all.
          let so_far = c.loop-place.invariant.led s moments stands number over all in
          let before = subst (IsLed plan moments) (sym c.index_mut.ensures.value) (next_of (IsLed plan (s ∷ moments)) (IsLed plan moments) xs i old less so_far) in
          change_more (IsLed plan (s ∷ moments)) (IsLed plan moments) xs i v less
          (led_one plan s moments c.args.moment.number c.args.moment.over old v c.in_ok-advance.ensures.look
          (c.in_ok-advance.ensures.stage s stands (led_so plan moments old before)) number over before) so_far;
    }

pub returns-clause-looks : goal.returns-clause-looks
returns-clause-looks g c = c.loop-place.invariant.looks

pub returns-clause-replicas : goal.returns-clause-replicas
returns-clause-replicas g c = c.loop-place.invariant.replicas

pub returns-clause-led : goal.returns-clause-led
returns-clause-led g c = λ s moments stands number over all.
    let xs = c.loop-place.visitors.items in
    let past : length xs ≤ c.loop-place.place = omega (arith, c.loop-place-test.false, c.loop-place.invariant.long) in
    all_changed (IsLed c.args.plan.now (s ∷ moments)) (IsLed c.args.plan.now moments) xs c.loop-place.place past
    (c.loop-place.invariant.led s moments stands number over all)
