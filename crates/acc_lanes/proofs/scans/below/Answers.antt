use Rattle.std.proofs.Common.{◌≡◌, ◌==◌, ◌+◌, ◌-◌, false, get_or, ap, subst, ◌∙◌, arith, ⊎_elim}
use Rattle.std.proofs.lemmas.Bool.{cases_lt}
use Rattle.acc_lanes.specs.Pairs.{pair_lt}
use Rattle.acc_lanes.proofs.Numbers.{is_flag, told_of_pairs}
use Rattle.acc_lanes.proofs.scans.below.Goals as goal

pub loop-at-preserved : goal.loop-at-preserved
loop-at-preserved c =
    let at = c.loop-at.at in
    let h = c.args.h.now in
    let origin = c.args.origin.now in
    record {
      in_range = omega arith;
      told = λ k l.
          ⊎_elim
          (λ lt. c.put.ensures.before k lt ∙ c.loop-at.invariant.told k lt)
          (λ ge.
          let e : at + (k - at) ≡ k = omega arith in
          subst (λ z. get_or c.put.new.out z false ≡ pair_lt (get_or h z 0, get_or origin z 0) c.args.bound) e
          (c.put.ensures.here (k - at) (omega arith) ∙ ap (λ x. x == 1) (c.below_lanes.ensures.each (k - at) (omega arith)) ∙ is_flag _))
          (cases_lt k at);
    }

pub returns : goal.returns
returns c =
    told_of_pairs (λ s. pair_lt s c.args.bound) c.args.h.now c.args.origin.now c.loop-place.out false c.requires.origins
    (c.loop-place.auto.out ∙ c.loop-at.auto.out ∙ c.requires.places) (λ k l. c.loop-place.invariant k (omega arith))
