use Rattle.std.proofs.Common.{sym, subst}
use Rattle.std.specs.List.{AllByRecursion}
use Rattle.std.specs.Vec.Iter.{into_iter_items}
use Rattle.acc_cluster.proofs.Filled.{all_push}
use Rattle.acc_cluster.proofs.Turns.{one_more}
use Rattle.acc_glance.specs.declared.sights.Finding.{Finding}
use Rattle.acc_glance.specs.declared.visits.Visitor.{Visitor}
use Rattle.acc_glance.specs.Sights.{IsSettled}
use Rattle.acc_glance.proofs.Pushed.{both_push, not_settled}
use Rattle.acc_glance.proofs.sights.findings.Goals as goal

pub loop-visitor-preserved : goal.loop-visitor-preserved
loop-visitor-preserved c =
    let before = c.loop-visitor.invariant in
    let v = c.in-Some.visitor in
    let f = c.unsettled.result in
    record {
      can_next = tt;
      is_finite = tt;
      rest = one_more c.loop-visitor.yielded v (into_iter_items c.loop-visitor.visitor-iterator) (into_iter_items c.next.new.self) c.args.visitors.items before.rest c.in-Some.ensures.steps.0;
      looks =
          both_push (λ (f : Finding). f.look) (λ (v : Visitor). v.look) c.loop-visitor.findings.items c.push.new.self.items f c.loop-visitor.yielded v
          c.in_ok-push.ensures.items before.looks c.unsettled.ensures.look;
      stages =
          both_push (λ (f : Finding). f.stage) (λ (v : Visitor). v.stage) c.loop-visitor.findings.items c.push.new.self.items f c.loop-visitor.yielded v
          c.in_ok-push.ensures.items before.stages c.unsettled.ensures.stage;
      unsettled = λ cluster items.
          subst (AllByRecursion (IsSettled cluster items 0)) (sym c.in_ok-push.ensures.items)
          (all_push (IsSettled cluster items 0) c.loop-visitor.findings.items f (before.unsettled cluster items) (not_settled cluster items f c.unsettled.ensures.at));
    }
