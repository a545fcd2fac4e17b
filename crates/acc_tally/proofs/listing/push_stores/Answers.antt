use Rattle.std.proofs.Common.{◌++◌, ◌∷◌, [], map, sym, ◌∙◌, ap, arith}
use Rattle.acc_stamp.specs.declared.actors.Actor.{Actor}
use Rattle.acc_stamp.specs.Actor.{actor_of}
use Rattle.acc_tally.proofs.Listed.{below-without, below-all, more_stores}
use Rattle.acc_tally.proofs.listing.push_stores.Goals as goal
use Rattle.acc_tally.proofs.listing.push_stores.Goals.{then-contains+in_ok-push, else-contains}

pub loop-node-preserved : goal.loop-node-preserved
loop-node-preserved c =
    elim c.if-contains.branch [
      | then-contains+in_ok-push w ↦
          w.stores-is ∙ w.in_ok-push.ensures.ok ∙ ap (λ (a : Actor). c.loop-node.stores ++ a ∷ []) w.actor.ensures.number
          ∙ more_stores (λ node. actor_of node c.args.shard) c.args.stores.now c.loop-node.stores c.args.nodes c.loop-node.node
          (sym c.contains.ensures ∙ w.if-contains.true) c.loop-node.invariant
      | else-contains w ↦
          w.stores-is ∙ c.loop-node.invariant
          ∙ ap (λ nodes. c.args.stores.now ++ map (λ node. actor_of node c.args.shard) nodes)
          (sym (below-without c.args.nodes c.loop-node.node (sym c.contains.ensures ∙ w.if-contains.false)))
    ]

pub returns : goal.returns
returns c =
    c.loop-node.invariant
    ∙ ap (λ nodes. c.args.stores.now ++ map (λ node. actor_of node c.args.shard) nodes) (below-all c.args.nodes c.loop-node.node (omega arith))
