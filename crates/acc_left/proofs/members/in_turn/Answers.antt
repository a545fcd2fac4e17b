use Rattle.std.proofs.Common.{◌≡◌, filter, sym, ap, subst, ◌∙◌}
use Rattle.std.specs.List.{flat_map}
use Rattle.std.proofs.lemmas.List.{take_all}
use Rattle.acc_stamp.specs.Actor.{actor_eq}
use Rattle.acc_left.specs.declared.image.Image.{Image}
use Rattle.acc_left.specs.Leaves.{DoRise}
use Rattle.acc_left.specs.Reading.{in_turn}
use Rattle.acc_left.proofs.OrderFacts.{in_turn_rises}
use Rattle.acc_left.proofs.members.in_turn.Goals as goal

pub returns-clause-rise : goal.returns-clause-rise
returns-clause-rise c = λ is apart.
    let all : c.loop-actor.all ≡ in_turn c.args.topology.now c.args.images.now =
    c.loop-actor.invariant
    ∙ ap (flat_map (λ a. filter (λ (image : Image). actor_eq image.actor a) c.args.images.now))
    (take_all c.loop-actor.actor-index c.as_slice-actor-items.result.now c.loop-actor-test.false ∙ c.as_slice-actor-items.ensures ∙ c.in_ok-actors_of.ensures) in
    subst DoRise (sym all) (in_turn_rises c.args.topology.now is c.args.images.now apart)
