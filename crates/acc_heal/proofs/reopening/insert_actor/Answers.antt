use Rattle.std.proofs.Common.{◌||◌, ◌∙◌, ap}
use Rattle.acc_heal.specs.Actors.{has_actor}
use Rattle.acc_heal.proofs.ActorSets.{armed_at}
use Rattle.acc_heal.proofs.SeenFacts.{one_key}
use Rattle.acc_heal.proofs.reopening.insert_actor.Goals as goal

pub returns : goal.returns
returns c = λ a.
    let before = has_actor c.args.actors.now.keys a in
    c.in_ok-insert.ensures.updates.0 a ∙ one_key _ before ∙ ap (λ o. before || o) (armed_at c.args.actor a)
