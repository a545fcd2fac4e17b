use Rattle.std.proofs.Common.{◌<◌, ◌≤◌, ◌+◌, length, sym, ◌∙◌, ap, subst, arith}
use Rattle.std.proofs.Math.ListN.{length-set}
use Rattle.acc_glance.specs.declared.sights.Finding.{Finding}
use Rattle.acc_glance.specs.Sights.{IsSettled}
use Rattle.acc_glance.proofs.Splits.{all_changed, change_more, map_kept, next_of}
use Rattle.acc_glance.proofs.sights.settle.Goals as goal

pub loop-place-preserved : goal.loop-place-preserved
loop-place-preserved c =
    let xs = c.loop-place.findings.items in
    let i = c.loop-place.place in
    let old = c.index_mut.result.now in
    let v = c.settle_one.new.finding in
    let less : i < length xs = omega (arith, c.loop-place-test.true, c.loop-place.invariant.long) in
    record {
      long = simp length-set c.loop-place.invariant.long;
      looks =
          map_kept (λ (f : Finding). f.look) xs i v old less (c.settle_one.ensures.look ∙ ap (λ (f : Finding). f.look) c.index_mut.ensures.value)
          ∙ c.loop-place.invariant.looks;
      stages =
          map_kept (λ (f : Finding). f.stage) xs i v old less (c.settle_one.ensures.stage ∙ ap (λ (f : Finding). f.stage) c.index_mut.ensures.value)
          ∙ c.loop-place.invariant.stages;
      settled = λ cluster items order shows all.
          let so_far = c.loop-place.invariant.settled cluster items order shows all in
          change_more (IsSettled cluster items (c.args.last + 1)) (IsSettled cluster items c.args.first) xs i v less
          (c.settle_one.ensures.settled cluster items order shows
          (subst (IsSettled cluster items c.args.first) (sym c.index_mut.ensures.value)
          (next_of (IsSettled cluster items (c.args.last + 1)) (IsSettled cluster items c.args.first) xs i old less so_far))) so_far;
    }

pub returns : goal.returns
returns c =
    let xs = c.loop-place.findings.items in
    let past : length xs ≤ c.loop-place.place = omega (arith, c.loop-place-test.false, c.loop-place.invariant.long) in
    record {
      looks = c.loop-place.invariant.looks;
      stages = c.loop-place.invariant.stages;
      settled = λ cluster items order shows all.
          all_changed (IsSettled cluster items (c.args.last + 1)) (IsSettled cluster items c.args.first) xs c.loop-place.place past
          (c.loop-place.invariant.settled cluster items order shows all);
    }
