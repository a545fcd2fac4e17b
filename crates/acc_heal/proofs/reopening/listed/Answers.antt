use Rattle.std.proofs.Common.{◌+◌, ◌<◌, ◌++◌, length, map, sym, ◌∙◌, ap, arith}
use Rattle.std.proofs.lemmas.List.{append_assoc, append-nil, take_all}
use Rattle.acc_stamp.specs.Actor.{actor_of}
use Rattle.acc_topology.specs.Layout.{shard_at}
use Rattle.acc_topology.specs.Sets.{members}
use Rattle.acc_schedule.specs.Actors.{stores_from}
use Rattle.acc_run.proofs.Numbers.{stores_to, shard_more}
use Rattle.acc_heal.proofs.reopening.listed.Goals as goal

pub loop-place-init : goal.loop-place-init
loop-place-init c =
    c.in_ok-push_actors.ensures ∙ ap (λ before. before ++ map (λ node. actor_of node 0) (members c.nodes.result)) c.new-listed.ensures.items
    ∙ ap (λ nodes. map (λ node. actor_of node 0) nodes) c.nodes.ensures.listed
    ∙ sym (append-nil (map (λ node. actor_of node 0) c.args.topology.now.nodes))

pub loop-place-preserved : goal.loop-place-preserved
loop-place-preserved c =
    let layout = c.args.topology.now in
    let place = c.loop-place.place in
    let nodes = map (λ node. actor_of node 0) layout.nodes in
    let within : place < length layout.shards = omega (arith, c.loop-place-test.true, c.shards-place-end.ensures.value) in
    c.in_ok-push_actors-2.ensures ∙ ap (λ nodes. c.loop-place.listed.items ++ map (λ node. actor_of node (place + 1)) nodes) c.replicas.ensures.listed
    ∙ ap (λ before. before ++ map (λ node. actor_of node (place + 1)) (shard_at layout (place + 1)).replicas) c.loop-place.invariant
    ∙ append_assoc nodes (stores_to layout place) (map (λ node. actor_of node (place + 1)) (shard_at layout (place + 1)).replicas)
    ∙ ap (λ stores. nodes ++ stores) (sym (shard_more layout place within))

pub returns : goal.returns
returns c =
    let layout = c.args.topology.now in
    c.loop-place.invariant
    ∙ ap (λ shards. map (λ node. actor_of node 0) layout.nodes ++ stores_from 1 shards)
    (take_all c.loop-place.place layout.shards (omega (arith, c.loop-place-test.false, c.shards-place-end.ensures.value)))
