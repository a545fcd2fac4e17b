use Rattle.std.proofs.Common.{◌≡◌, ◌+◌, ◌<◌, ◌≤◌, List, [], ◌∷◌, length, map, reverse, take, sym, ap, subst, ◌∙◌, arith}
use Rattle.acc_stamp.specs.declared.actors.Actor.{Actor}
use Rattle.acc_schedule.specs.Content.{Content}
use Rattle.acc_left.specs.declared.image.Image.{Image}
use Rattle.acc_left.specs.Kept.{closed, fronts_after}
use Rattle.acc_left.specs.Leaves.{actors_rising}
use Rattle.acc_left.proofs.ItemFacts.{all_short, left_all, left_more, left_none, written_back, AreLeftSoFar}
use Rattle.acc_left.proofs.images.leave.Goals as goal

pub loop-place-init : goal.loop-place-init
loop-place-init c =
    left_none c.args.plan.now.version (actors_rising c.args.plan.now.topology) c.args.items.now c.in_ok-images.images.items c.new-places.result
    (c.in_ok-images.ensures c.args.plan.now.version ∙ ap (λ (l : List Actor). fronts_after c.args.plan.now.version l []) (c.as_slice.ensures ∙ c.in_ok-actors.ensures ∙ ap (λ (p : Content). actors_rising p.topology) c.plan.view_is))
    (c.new-places.ensures c.args.items.now)

pub enter_item-requires-clause-short : goal.enter_item-requires-clause-short
enter_item-requires-clause-short c = all_short c.args.items.now c.loop-place.place c.loop-place.places c.loop-place.invariant.told c.requires.short

pub enter_item-requires-clause-told : goal.enter_item-requires-clause-told
enter_item-requires-clause-told c = (reverse (take c.loop-place.place c.args.items.now), c.loop-place.invariant.told)

pub loop-place-preserved : goal.loop-place-preserved
loop-place-preserved c =
    let old = c.loop-place.images.items in
    let new = c.enter_item.new.images in
    let kept = c.enter_item.auto.images in
    let same = ap length c.as_mut_slice.ensures.value in
    let many = c.as_mut_slice.ensures.len in
    let long : length new ≡ length old = omega (arith, kept, same) in
    let counted : c.loop-place.images.len ≡ length old = omega (arith, many, same) in
    let test = c.loop-place-test.true in
    let end = c.len-place-end.ensures in
    let version : c.plan.inside.version ≡ c.args.plan.now.version = ap (λ (p : Content). p.version) c.plan.view_is in
    let within : c.loop-place.place < length c.args.items.now = omega (arith, test, end) in
    subst
    (λ (l : List Image). AreLeftSoFar c.args.plan.now.version (actors_rising c.args.plan.now.topology) c.args.items.now (c.loop-place.place + 1) l c.enter.new.self)
    (sym (written_back new old c.loop-place.images.len long counted))
    (left_more c.args.plan.now.version (actors_rising c.args.plan.now.topology) c.args.items.now c.loop-place.place old new c.loop-place.places c.enter.new.self within c.loop-place.invariant
    (λ entered item others tells here are.
    c.in_ok-enter_item.ensures entered item others tells here (c.as_mut_slice.ensures.value ∙ are ∙ ap (λ v. fronts_after v others entered) (sym version))
    ∙ ap (λ v. fronts_after v others (item ∷ entered)) version)
    (λ entered item here tells. c.in_ok-enter.ensures entered item here tells))

pub returns : goal.returns
returns c =
    let old = c.loop-place.images.items in
    let new = c.close.new.images in
    let kept = c.close.auto.images in
    let same = ap length c.as_mut_slice-2.ensures.value in
    let many = c.as_mut_slice-2.ensures.len in
    let long : length new ≡ length old = omega (arith, kept, same) in
    let counted : c.loop-place.images.len ≡ length old = omega (arith, many, same) in
    let test = c.loop-place-test.false in
    let end = c.len-place-end.ensures in
    let all : length c.args.items.now ≤ c.loop-place.place = omega (arith, test, end) in
    c.from_vec.ensures ∙ written_back new old c.loop-place.images.len long counted
    ∙ left_all c.args.plan.now c.args.items.now c.loop-place.place c.loop-place.images.items new c.loop-place.places all c.loop-place.invariant (c.in_ok-close.ensures ∙ ap (map closed) c.as_mut_slice-2.ensures.value)
