use Rattle.std.proofs.Common.{◌≡◌, ◌+◌, max, cond, get_or, sym, ◌∙◌, ap, arith}
use Rattle.std.proofs.lemmas.List.{take_all}
use Rattle.acc_lanes.specs.Vectors.{greatest_number, heights_chosen}
use Rattle.acc_lanes.proofs.Lanes.{HasLanes-like}
use Rattle.acc_lanes.proofs.Maxima.{length-heights_chosen, get_or-heights_chosen}
use Rattle.acc_lanes.proofs.Numbers.{step, step_one, greatest_zeros}
use Rattle.acc_lanes.proofs.chosen.greatest_height.Goals as goal
use Rattle.acc_lanes.proofs.chosen.greatest_height.Goals.{then-mask-place, else-mask-place}

pub loop-at-init : goal.loop-at-init
loop-at-init c = record { in_range = omega arith; kept = greatest_zeros c.splat-best.result c.splat-best.ensures }

pub loop-at-preserved : goal.loop-at-preserved
loop-at-preserved c =
    let h = c.args.h.now in
    let mask = c.args.mask.now in
    let at = c.loop-at.at in
    let wide = length-heights_chosen mask h c.requires in
    record {
      in_range = omega arith;
      kept = step (heights_chosen mask h) c.loop-at.best c.height_lanes.result c.larger-best.result at (omega arith) c.loop-at.auto.best.0
          (HasLanes-like _ _ _ c.height_lanes.ensures (λ k l. sym (get_or-heights_chosen mask h (at + k) c.requires)))
          c.larger-best.ensures c.loop-at.invariant.kept;
    }

pub loop-place-preserved : goal.loop-place-preserved
loop-place-preserved c =
    let h = c.args.h.now in
    let mask = c.args.mask.now in
    let place = c.loop-place.place in
    let wide = length-heights_chosen mask h c.requires in
    let here = get_or-heights_chosen mask h place c.requires in
    let one = step_one (heights_chosen mask h) place c.loop-place.greatest (omega arith) c.loop-place.invariant in
    elim c.if-mask-place.branch [
      | then-mask-place w ↦ w.greatest-is ∙ w.max-greatest.ensures ∙ ap (max c.loop-place.greatest) (sym (here ∙ ap (λ b. cond b (get_or h place 0) 0) w.if-mask-place.true)) ∙ one
      | else-mask-place w ↦ w.greatest-is ∙ (let e : c.loop-place.greatest ≡ max c.loop-place.greatest 0 = omega arith in e) ∙ ap (max c.loop-place.greatest) (sym (here ∙ ap (λ b. cond b (get_or h place 0) 0) w.if-mask-place.false)) ∙ one
    ]

pub returns : goal.returns
returns c =
    let h = c.args.h.now in
    let mask = c.args.mask.now in
    c.loop-place.invariant ∙ ap greatest_number (take_all c.loop-place.place (heights_chosen mask h) (omega (arith, length-heights_chosen mask h c.requires)))
