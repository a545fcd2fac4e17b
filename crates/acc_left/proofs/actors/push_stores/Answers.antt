use Rattle.std.proofs.Common.{◌+◌, ◌∷◌, ◌++◌, [], sym, ◌∙◌, ap, arith}
use Rattle.acc_stamp.specs.declared.actors.Actor.{Actor}
use Rattle.acc_left.proofs.ActorFacts.{store_more, store_none, stores_all}
use Rattle.acc_left.proofs.actors.push_stores.Goals as goal
use Rattle.acc_left.proofs.actors.push_stores.Goals.{then-contains+in_ok-push, else-contains}

pub loop-place-preserved : goal.loop-place-preserved
loop-place-preserved c =
    elim c.if-contains.branch [
      | then-contains+in_ok-push w ↦
          w.actors-is ∙ w.in_ok-push.ensures.ok ∙ ap (λ (a : Actor). c.loop-place.actors ++ a ∷ []) w.actor.ensures.number
          ∙ store_more c.args.topology.now c.args.node c.loop-place.place (c.loop-place.place + 1) c.args.actors.now c.loop-place.actors (omega arith)
          (sym (c.replicas.ensures.set c.args.node) ∙ sym c.contains.ensures ∙ w.if-contains.true) c.loop-place.invariant
      | else-contains w ↦
          w.actors-is
          ∙ store_none c.args.topology.now c.args.node c.loop-place.place (c.loop-place.place + 1) c.args.actors.now c.loop-place.actors (omega arith)
          (sym (c.replicas.ensures.set c.args.node) ∙ sym c.contains.ensures ∙ w.if-contains.false) c.loop-place.invariant
    ]

pub returns : goal.returns
returns c =
    stores_all c.args.topology.now c.args.node c.loop-place.place c.args.actors.now c.loop-place.actors (omega (arith, c.shards-place-end.ensures.value)) c.loop-place.invariant
