use Rattle.std.proofs.Common.{◌≡◌, ◌≤◌, ◌+◌, take, reverse, refl, sym, ◌∙◌, subst, arith}
use Rattle.std.specs.List.{AllByRecursion}
use Rattle.acc_message.specs.Shown.{with_sent}
use Rattle.acc_report.proofs.Steps.{reverse_more}
use Rattle.acc_schedule_runs.specs.Schedules.{cluster_of}
use Rattle.acc_glance.specs.Serial.{Tells}
use Rattle.acc_glance.specs.Sights.{IsSettled, ShowsFrom}
use Rattle.acc_value.specs.Cells.{cells_of}
use Rattle.acc_glance.proofs.SightFacts.{next_order, next_shows, shows_start, shown_by}
use Rattle.acc_glance.proofs.sights.find_moments.Goals as goal

pub loop-place-init : goal.loop-place-init
loop-place-init c =
    let xs = c.args.items.now.items in
    let cluster = cluster_of c.args.plan.now in
    let tells = c.new-serial.ensures cluster in
    record {
      looks = refl;
      stages = refl;
      tells = tells;
      order = omega arith;
      shows =
          shows_start cluster (reverse xs) (cells_of c.new-serial.result.cells) 0
          (shown_by c.oldest_items_stay.ensures.stay c.oldest_items_stay.ensures.all cluster xs 0 (omega arith) c.new-serial.result tells);
      settled = λ all. all;
    }

pub loop-place-preserved : goal.loop-place-preserved
loop-place-preserved c =
    let xs = c.args.items.now.items in
    let place = c.loop-place.place in
    let out = c.shown-item.ensures.0 in
    let item = with_sent c.shown-item.result out in
    let cluster = cluster_of c.args.plan.now in
    let tells = c.in_ok-enter.ensures out (reverse (take place xs)) c.loop-place.invariant.tells in
    record {
      looks = c.settle_before.ensures.looks ∙ c.loop-place.invariant.looks;
      stages = c.settle_before.ensures.stages ∙ c.loop-place.invariant.stages;
      tells = subst (Tells c.enter.new.self cluster) (sym (reverse_more xs place item c.shown-item.ensures.1)) tells;
      order = next_order c.notes_of.result.now place c.loop-place.start c.settle_before.new.start c.loop-place.invariant.order c.settle_before.ensures.start;
      shows =
          next_shows c.oldest_items_stay.ensures.stay c.oldest_items_stay.ensures.all cluster xs place c.loop-place.start c.settle_before.new.start item c.notes_of.result.now
          c.loop-place.serial c.enter.new.self c.shown-item.ensures.1 (omega (arith, c.loop-place-test.true, c.len-count.ensures)) (c.notes_of.ensures out)
          c.loop-place.invariant.tells tells c.loop-place.invariant.shows c.settle_before.ensures.start;
      settled = λ all.
          c.settle_before.ensures.settled cluster (reverse xs) c.loop-place.invariant.order c.loop-place.invariant.shows (c.loop-place.invariant.settled all);
    }

pub returns-clause-looks : goal.returns-clause-looks
returns-clause-looks c = c.settle.ensures.looks ∙ c.loop-place.invariant.looks

pub returns-clause-stages : goal.returns-clause-stages
returns-clause-stages c = c.settle.ensures.stages ∙ c.loop-place.invariant.stages

pub returns-clause-settled : goal.returns-clause-settled
returns-clause-settled c = λ all.
    let xs = c.args.items.now.items in
    let cluster = cluster_of c.args.plan.now in
    let full : c.loop-place.place ≡ c.len-count.result = omega (arith, c.loop-place-test.false, c.loop-place.auto.place-end) in
    let order : c.loop-place.start ≤ c.len-count.result = omega (arith, c.loop-place.invariant.order, c.loop-place.auto.place-end) in
    subst (λ n. AllByRecursion (IsSettled cluster (reverse xs) (n + 1)) c.settle.new.findings.items) c.len-count.ensures
    (c.settle.ensures.settled cluster (reverse xs) order
    (subst (λ n. ShowsFrom cluster (reverse xs) c.loop-place.start n (cells_of c.loop-place.serial.cells)) full c.loop-place.invariant.shows) (c.loop-place.invariant.settled all))
