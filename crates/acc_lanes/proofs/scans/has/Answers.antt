-- A lane that is 1 has found the stamp; without one, none of the stamps before the place is it.
use Rattle.std.proofs.Common.{◌≡◌, ◌+◌, cond, get_or, length, sym, ap, ◌∙◌, arith, max}
use Rattle.std.specs.List.{zip}
use Rattle.std.proofs.lemmas.List.{take_all}
use Rattle.std.proofs.lemmas.List.Folds.{list_any_at}
use Rattle.acc_lanes.specs.Pairs.{pair_eq}
use Rattle.acc_lanes.specs.Vectors.{greatest_number}
use Rattle.acc_lanes.proofs.Lanes.{HasLanes-like}
use Rattle.acc_lanes.proofs.Numbers.{step, step_one, length_pairs, pair_at, greatest_zeros, flags_of, flag_at, flag_length, found_in_front, none_in_front, none_found}
use Rattle.acc_lanes.proofs.scans.has.Goals as goal

pub loop-at-init : goal.loop-at-init
loop-at-init c = record { in_range = omega arith; kept = greatest_zeros c.splat-found.result c.splat-found.ensures }

pub loop-at-preserved : goal.loop-at-preserved
loop-at-preserved c =
    let h = c.args.h.now in
    let origin = c.args.origin.now in
    let at = c.loop-at.at in
    let xs = flags_of c.args.stamp h origin in
    let wide : length xs ≡ length h = flag_length c.args.stamp h origin c.requires in
    record {
      in_range = omega arith;
      kept = step xs c.loop-at.found c.equal_lanes.result c.larger-found.result at (omega arith) c.loop-at.auto.found.0
          (HasLanes-like _ _ _ c.equal_lanes.ensures (λ k l. sym (flag_at c.args.stamp h origin (at + k) c.requires (omega arith))))
          c.larger-found.ensures c.loop-at.invariant.kept;
    }

pub returns-then-greatest_lane-eq1 : goal.returns-then-greatest_lane-eq1
returns-then-greatest_lane-eq1 c =
    sym (found_in_front c.args.stamp c.args.h.now c.args.origin.now c.loop-at.at c.requires (sym c.loop-at.invariant.kept ∙ sym c.greatest_lane.ensures ∙ c.if-greatest_lane-eq1.true))

pub loop-place-init : goal.loop-place-init
loop-place-init c =
    sym (none_in_front c.args.stamp c.args.h.now c.args.origin.now c.loop-at.at (λ e. c.if-greatest_lane-eq1.false (c.greatest_lane.ensures ∙ c.loop-at.invariant.kept ∙ e)))

pub returns-then-is_stamp : goal.returns-then-is_stamp
returns-then-is_stamp c =
    let h = c.args.h.now in
    let origin = c.args.origin.now in
    let place = c.loop-place.place in
    sym (list_any_at (λ s. pair_eq s c.args.stamp) (zip h origin) place (0, 0) (omega (arith, length_pairs h origin c.requires))
    (ap (λ s. pair_eq s c.args.stamp) (pair_at h origin place c.requires (omega arith)) ∙ sym c.is_stamp.ensures ∙ c.if-is_stamp.true))

pub loop-place-preserved : goal.loop-place-preserved
loop-place-preserved c =
    let h = c.args.h.now in
    let origin = c.args.origin.now in
    let place = c.loop-place.place in
    let xs = flags_of c.args.stamp h origin in
    let wide : length xs ≡ length h = flag_length c.args.stamp h origin c.requires in
    let none : get_or xs place 0 ≡ 0 = flag_at c.args.stamp h origin place c.requires (omega arith) ∙ ap (λ b. cond b 1 0) (sym c.is_stamp.ensures ∙ c.if-is_stamp.false) in
    sym (ap (max 0) none) ∙ step_one xs place 0 (omega arith) c.loop-place.invariant

pub returns : goal.returns
returns c =
    let h = c.args.h.now in
    let origin = c.args.origin.now in
    sym (none_found c.args.stamp h origin (c.loop-place.invariant ∙ ap greatest_number (take_all c.loop-place.place (flags_of c.args.stamp h origin) (omega (arith, flag_length c.args.stamp h origin c.requires)))))
