use Rattle.std.proofs.Common.{◌≡◌, ℕ, ◌<◌, ◌≤◌, List, None, length, ap, arith}
use Rattle.acc_schedule.specs.Actors.{at_name}
use Rattle.acc_schedule.proofs.ActorFacts.{all_added, nodes_added, shard_added, shown}
use Rattle.acc_schedule.proofs.actors.ActorTable.of.Goals as goal

pub loop-place-init : goal.loop-place-init
loop-place-init c =
    let none : (name : List ℕ) → at_name (shown c.new.result.entries) name ≡ None = λ name. ap (λ entries. at_name (shown entries) name) c.new.ensures.empty in
    nodes_added c.args.topology.now (at_name (shown c.new.result.entries)) (at_name c.add_all.new.self) c.nodes.result none c.nodes.ensures.listed c.in_ok-add_all.ensures

pub loop-place-preserved : goal.loop-place-preserved
loop-place-preserved c =
    let within : c.loop-place.place < length c.args.topology.now.shards = omega (arith, c.loop-place-test.true, c.shards-place-end.ensures.value) in
    shard_added c.args.topology.now c.loop-place.place (at_name c.loop-place.table) (at_name c.add_all-in-loop-place.new.self) c.replicas.result within c.loop-place.invariant c.replicas.ensures.listed c.in_ok-add_all-2.ensures

pub returns : goal.returns
returns c =
    let long : length c.args.topology.now.shards ≤ c.loop-place.place = omega (arith, c.loop-place-test.false, c.shards-place-end.ensures.value) in
    all_added c.args.topology.now c.loop-place.place c.loop-place.table long c.loop-place.invariant
