use Rattle.std.proofs.Common.{◌≡◌, ◌++◌, ◌∷◌, [], ℕ, List, map, refl, sym, ◌∙◌, ap, arith}
use Rattle.acc_stamp.specs.declared.actors.Actor.{Actor}
use Rattle.acc_stamp.specs.Actor.{actor_of}
use Rattle.acc_topology.specs.Sets.{members}
use Rattle.acc_run.proofs.Beginning.{items_of}
use Rattle.acc_run.proofs.Numbers.{one_more_store, no_more_store, all_named}
use Rattle.acc_heal.proofs.reopening.push_actors.Goals as goal
use Rattle.acc_heal.proofs.reopening.push_actors.Goals.{then-contains+in_ok-push, else-contains}

pub loop-node-preserved : goal.loop-node-preserved
loop-node-preserved c =
    let before = c.args.listed.now.items in
    elim c.if-contains.branch [
      | then-contains+in_ok-push w ↦
          ap items_of w.listed-is ∙ w.in_ok-push.ensures.items ∙ ap (λ (a : Actor). c.loop-node.listed.items ++ a ∷ []) w.actor.ensures.number
          ∙ ap (λ (l : List Actor). l ++ actor_of c.loop-node.node c.args.shard ∷ []) c.loop-node.invariant
          ∙ sym (one_more_store before c.args.shard c.args.nodes c.loop-node.node _ w.if-contains.true c.contains.ensures)
      | else-contains w ↦
          ap items_of w.listed-is ∙ c.loop-node.invariant
          ∙ sym (no_more_store before c.args.shard c.args.nodes c.loop-node.node _ w.if-contains.false c.contains.ensures)
    ]

pub returns : goal.returns
returns c =
    let full : c.loop-node.node ≡ 16 = omega (arith, c.loop-node-test.false, c.loop-node.auto.node-end) in
    all_named (λ (nodes : List ℕ). c.args.listed.now.items ++ map (λ node. actor_of node c.args.shard) nodes) c.loop-node.listed.items c.args.nodes c.loop-node.node
    (members c.args.nodes) (members c.args.nodes) c.loop-node.invariant full refl refl
