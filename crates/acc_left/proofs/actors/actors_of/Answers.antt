use Rattle.std.proofs.Common.{◌∷◌, ◌++◌, [], sym, ◌∙◌, ap, arith}
use Rattle.acc_stamp.specs.declared.actors.Actor.{Actor}
use Rattle.acc_left.proofs.ActorFacts.{node_more, node_none, nodes_all}
use Rattle.acc_left.proofs.actors.actors_of.Goals as goal
use Rattle.acc_left.proofs.actors.actors_of.Goals.{then-contains+in_ok-push+in_ok-push_stores, else-contains}

pub loop-node-preserved : goal.loop-node-preserved
loop-node-preserved c =
    elim c.if-contains.branch [
      | then-contains+in_ok-push+in_ok-push_stores w ↦
          w.actors-is
          ∙ node_more c.args.topology.now c.nodes-nodes.result c.loop-node.node c.loop-node.actors _ _ (sym c.contains.ensures ∙ w.if-contains.true) c.loop-node.invariant
          (w.in_ok-push.ensures.ok ∙ ap (λ (a : Actor). c.loop-node.actors ++ a ∷ []) w.actor.ensures.number) w.in_ok-push_stores.ensures
      | else-contains w ↦
          w.actors-is ∙ node_none c.args.topology.now c.nodes-nodes.result c.loop-node.node c.loop-node.actors (sym c.contains.ensures ∙ w.if-contains.false) c.loop-node.invariant
    ]

pub returns : goal.returns
returns c = nodes_all c.args.topology.now c.nodes-nodes.result c.loop-node.node c.loop-node.actors (omega arith) c.nodes-nodes.ensures.listed c.loop-node.invariant
