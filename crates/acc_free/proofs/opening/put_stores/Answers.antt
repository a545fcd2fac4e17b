-- One shard more.
use Rattle.std.proofs.Common.{◌≡◌, ℕ, ◌+◌, ◌*◌, ◌<◌, ◌≤◌, List, ◌++◌, length, map, sym, ◌∙◌, ap, arith}
use Rattle.std.proofs.lemmas.List.{take_all}
use Rattle.acc_stamp.specs.declared.actors.Actor.{Actor}
use Rattle.acc_stamp.specs.Actor.{actor_of}
use Rattle.acc_topology.specs.Layout.{Layout, Shard, shard_at}
use Rattle.acc_schedule.specs.Actors.{stores_from}
use Rattle.acc_schedule.specs.Content.{Content}
use Rattle.acc_run.proofs.Numbers.{stores_to}
use Rattle.acc_free.specs.Opened.{desk_actor}
use Rattle.acc_free.proofs.Known.{shard_on, itself_at_most}
use Rattle.acc_free.proofs.Openings.{opened_as, opened_named}
use Rattle.acc_free.proofs.opening.put_stores.Goals as goal

first_rank : (place : ℕ) → place ≡ 0 → 16 ≤ (place + 1) * 16
first_rank place is = omega (arith, is)

last_rank : (place count : ℕ) → place ≡ count → (place + 1) * 16 ≤ (count + 1) * 16
last_rank place count is = omega (arith, is)

all_shards : (layout : Layout) (front : List Actor) (place : ℕ) → length layout.shards ≤ place → front ++ stores_to layout place ≡ front ++ stores_from 1 layout.shards
all_shards layout front place long = ap (λ (shards : List Shard). front ++ stores_from 1 shards) (take_all place layout.shards long)

pub put_stores_of-requires-clause-strict : goal.put_stores_of-requires-clause-strict
put_stores_of-requires-clause-strict g c κs within = c.requires.strict ∙ sym c.loop-place.invariant.kind

pub put_stores_of-requires-clause-opened : goal.put_stores_of-requires-clause-opened
put_stores_of-requires-clause-opened g c κs within =
    let d = g.M.D.Disk in
    let rank = (c.loop-place.place + 1) * 16 in
    opened_named d g.J.Planned.strict c.args.plan.now c.args.tape.now _ rank rank c.loop-place.first c.loop-place.desks.items
    (itself_at_most rank) c.loop-place.invariant.opened

pub loop-place-preserved : goal.loop-place-preserved
loop-place-preserved g c =
    let l = c.loop-place.invariant in
    let e = c.in_ok-put_stores_of.ensures in
    let d = g.M.D.Disk in
    let place = c.loop-place.place in
    let layout = c.args.plan.now.topology in
    let front = map (λ node. actor_of node 0) layout.nodes in
    let more = map (λ node. actor_of node (place + 1)) (shard_at layout (place + 1)).replicas in
    let many = c.shards-place-end.ensures.value ∙ ap (λ (p : Content). length p.topology.shards) c.plan.view_is in
    let within : place < length layout.shards = omega (arith, c.loop-place-test.true, many) in
    let rank = (place + 1 + 1) * 16 in
    record {
      opened =
          opened_as d g.J.Planned.strict c.args.plan.now c.args.tape.now (map desk_actor c.loop-place.desks.items ++ more)
          (front ++ stores_to layout (place + 1)) rank rank c.put_stores_of.new.first c.put_stores_of.new.desks.items
          (ap (λ (names : List Actor). names ++ more) l.opened.named ∙ shard_on layout front place within) (itself_at_most rank) e.ok;
      given = e.given ∙ l.given;
      kind = e.kind ∙ l.kind;
    }
