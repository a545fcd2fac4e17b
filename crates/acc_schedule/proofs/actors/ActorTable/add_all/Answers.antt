use Rattle.std.proofs.Common.{◌≡◌, ℕ, List, true, false, sym, ap, subst, ◌∙◌, arith}
use Rattle.acc_stamp.specs.declared.actors.Actor.{Actor}
use Rattle.acc_topology.specs.Sets.{in_set}
use Rattle.acc_schedule.specs.Actors.{at_name}
use Rattle.acc_schedule.proofs.ActorFacts.{Adds, actors_below, all_below, node_added, node_passed, nothing_added}
use Rattle.acc_schedule.proofs.actors.ActorTable.add_all.Goals as goal
use Rattle.acc_schedule.proofs.actors.ActorTable.add_all.Goals.{then-contains+in_ok-add, else-contains}

pub loop-node-init : goal.loop-node-init
loop-node-init c = nothing_added (at_name c.args.self.now)

pub loop-node-preserved : goal.loop-node-preserved
loop-node-preserved c =
    let before = at_name c.args.self.now in
    let between = at_name c.loop-node.self in
    elim c.if-contains.branch [
      | then-contains+in_ok-add w ↦ λ name. let within : true ≡ in_set c.args.nodes c.loop-node.node = sym w.if-contains.true ∙ c.contains.ensures in
          ap (λ table. at_name table name) w.self-is
          ∙ node_added before between (at_name w.add.new.self) c.args.nodes c.args.shard c.loop-node.node w.actor.result c.loop-node.invariant within w.actor.ensures.number w.in_ok-add.ensures name
      | else-contains w ↦ λ name. let outside : false ≡ in_set c.args.nodes c.loop-node.node = sym w.if-contains.false ∙ c.contains.ensures in
          ap (λ table. at_name table name) w.self-is ∙ node_passed before between c.args.nodes c.args.shard c.loop-node.node c.loop-node.invariant outside name
    ]

pub returns : goal.returns
returns c =
    let full : c.loop-node.node ≡ 16 = omega (arith, c.loop-node-test.false, c.loop-node.auto.node-end) in
    let below : Adds (at_name c.args.self.now) (at_name c.loop-node.self) (actors_below c.args.nodes c.args.shard 16) =
    subst (λ (n : ℕ). Adds (at_name c.args.self.now) (at_name c.loop-node.self) (actors_below c.args.nodes c.args.shard n)) full c.loop-node.invariant in
    subst (λ (actors : List Actor). Adds (at_name c.args.self.now) (at_name c.loop-node.self) actors) (all_below c.args.nodes c.args.shard) below
