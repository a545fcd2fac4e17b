use Rattle.std.proofs.Common.{◌∙◌, subst}
use Rattle.std.proofs.lemmas.List.{take_all}
use Rattle.acc_heal.proofs.ActorSets.{AreEntered, next_entered, all_entered}
use Rattle.acc_heal.proofs.reopening.rising.Goals as goal

pub loop-actor-preserved : goal.loop-actor-preserved
loop-actor-preserved c =
    next_entered c.loop-actor.rising.keys c.insert.new.self.keys c.as_slice-actor-items.result.now c.loop-actor.actor-index _ c.loop-actor-test.true
    c.in_ok-insert.ensures.keys c.loop-actor.invariant

pub returns : goal.returns
returns c =
    let actors = c.as_slice-actor-items.result.now in
    all_entered c.loop-actor.rising.keys _
    (subst (AreEntered c.loop-actor.rising.keys)
    (take_all c.loop-actor.actor-index actors c.loop-actor-test.false ∙ c.as_slice-actor-items.ensures.value ∙ c.in_ok-listed.ensures) c.loop-actor.invariant)
