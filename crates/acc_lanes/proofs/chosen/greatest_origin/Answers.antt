use Rattle.std.proofs.Common.{◌≡◌, ◌==◌, ◌+◌, ◌<◌, ◌^◌, max, ◌&&◌, cond, get_or, sym, subst, ◌∙◌, ap, arith}
use Rattle.std.proofs.lemmas.List.{take_all}
use Rattle.acc_lanes.specs.Vectors.{greatest_number, origins_chosen}
use Rattle.acc_lanes.proofs.Lanes.{HasLanes-like}
use Rattle.acc_lanes.proofs.Maxima.{length-origins_chosen, get_or-origins_chosen, both_or_none, only_other, origins-fit}
use Rattle.acc_lanes.proofs.Numbers.{step, step_one, greatest_zeros}
use Rattle.acc_lanes.proofs.chosen.greatest_origin.Goals as goal
use Rattle.acc_lanes.proofs.chosen.greatest_origin.Goals.{then-mask-place+then-h-place, else-mask-place, else-mask-place-via-then-mask-place+else-h-place, else-mask-place-via-else-mask-place}

pub loop-at-init : goal.loop-at-init
loop-at-init c = record { in_range = omega arith; kept = greatest_zeros c.splat-best.result c.splat-best.ensures }

pub loop-at-preserved : goal.loop-at-preserved
loop-at-preserved c =
    let h = c.args.h.now in
    let origin = c.args.origin.now in
    let mask = c.args.mask.now in
    let at = c.loop-at.at in
    let wide = length-origins_chosen c.args.height mask h origin c.requires.places c.requires.origins in
    record {
      in_range = omega arith;
      kept = step (origins_chosen c.args.height mask h origin) c.loop-at.best c.origin_lanes.result c.larger-best.result at (omega arith) c.loop-at.auto.best.0
          (HasLanes-like _ _ _ c.origin_lanes.ensures (λ k l. sym (get_or-origins_chosen c.args.height mask h origin (at + k) c.requires.places c.requires.origins)))
          c.larger-best.ensures c.loop-at.invariant.kept;
    }

pub loop-place-preserved : goal.loop-place-preserved
loop-place-preserved c =
    let h = c.args.h.now in
    let origin = c.args.origin.now in
    let mask = c.args.mask.now in
    let place = c.loop-place.place in
    let greatest = c.loop-place.greatest in
    let wide = length-origins_chosen c.args.height mask h origin c.requires.places c.requires.origins in
    let here = get_or-origins_chosen c.args.height mask h origin place c.requires.places c.requires.origins in
    let one = step_one (origins_chosen c.args.height mask h origin) place greatest (omega arith) c.loop-place.invariant in
    let same : greatest ≡ max greatest 0 = omega arith in
    elim c.if-mask-place.branch [
      | then-mask-place+then-h-place w ↦ w.greatest-is ∙ w.max-greatest.ensures ∙ ap (max greatest) (sym (here ∙ both_or_none _ _ _ _ w.if-mask-place.true w.if-h-place.true)) ∙ one
      | else-mask-place w ↦
          w.greatest-is ∙ same
          ∙ ap (max greatest)
          (sym (here ∙ elim w.else-mask-place.branch [
            | else-mask-place-via-then-mask-place+else-h-place v ↦ only_other _ _ _ _ v.if-h-place.false
            | else-mask-place-via-else-mask-place v ↦ ap (λ b. cond (b && (get_or h place 0 == c.args.height)) (get_or origin place 0) 0) v.if-mask-place.false
          ]))
          ∙ one
    ]

pub overflow_cast-result : goal.overflow_cast-result
overflow_cast-result c =
    let h = c.args.h.now in
    let origin = c.args.origin.now in
    let mask = c.args.mask.now in
    let is : c.loop-place.greatest ≡ greatest_number (origins_chosen c.args.height mask h origin) =
    c.loop-place.invariant
    ∙ ap greatest_number (take_all c.loop-place.place (origins_chosen c.args.height mask h origin) (omega (arith, length-origins_chosen c.args.height mask h origin c.requires.places c.requires.origins))) in
    record { fits = subst (λ z. z < 2 ^ 32) (sym is) (origins-fit c.args.height mask h origin (2 ^ 32) (omega arith) (λ k. (c.type_inv.origin k).fits)) }

pub returns : goal.returns
returns c =
    let h = c.args.h.now in
    let origin = c.args.origin.now in
    let mask = c.args.mask.now in
    c.loop-place.invariant
    ∙ ap greatest_number (take_all c.loop-place.place (origins_chosen c.args.height mask h origin) (omega (arith, length-origins_chosen c.args.height mask h origin c.requires.places c.requires.origins)))
