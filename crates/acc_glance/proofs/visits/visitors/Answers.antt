use Rattle.std.proofs.Common.{◌∷◌, [], ◌++◌, map, take, sym, ◌∙◌, ap, subst}
use Rattle.std.specs.List.{AllByRecursion}
use Rattle.std.proofs.lemmas.List.{take_more}
use Rattle.acc_cluster.proofs.Filled.{all_push}
use Rattle.acc_glance.specs.declared.looks.Look.{Look}
use Rattle.acc_glance.specs.declared.visits.Visitor.{Visitor}
use Rattle.acc_glance.specs.Visits.{HasReplicas, IsLed}
use Rattle.acc_glance.proofs.Pushed.{map_push}
use Rattle.acc_glance.proofs.visits.visitors.Goals as goal

pub loop-look-preserved : goal.loop-look-preserved
loop-look-preserved c =
    let before = c.loop-look.invariant in
    let v = c.in_ok-begun_by.field-0 in
    let xs = c.loop-look.visitors.items in
    let plan = c.args.plan.now in
    record {
      looks =
          ap (λ l. map (λ (v : Visitor). v.look) l) c.in_ok-push.ensures.items ∙ map_push (λ (v : Visitor). v.look) xs v ∙ ap (λ l. l ++ v.look ∷ []) before.looks
          ∙ ap (λ (z : Look). take c.loop-look.look-index c.as_slice-look-items.result.now ++ z ∷ []) (c.in_ok-begun_by.ensures.look ∙ c.look-item.is)
          ∙ sym (take_more c.as_slice-look-items.result.now c.loop-look.look-index c.look-item.result c.loop-look-test.true);
      items = before.items;
      replicas =
          subst (AllByRecursion (HasReplicas plan)) (sym c.in_ok-push.ensures.items) (all_push (HasReplicas plan) xs v before.replicas c.in_ok-begun_by.ensures.replicas);
      led = subst (AllByRecursion (IsLed plan [])) (sym c.in_ok-push.ensures.items) (all_push (IsLed plan []) xs v before.led c.in_ok-begun_by.ensures.led);
    }
