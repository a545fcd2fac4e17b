-- A node that has done nothing, over a new disk.
use Rattle.std.proofs.Common.{◌≡◌, ◌≢◌, ℕ, ◌+◌, ◌*◌, ◌≤◌, [], ◌∷◌, ◌++◌, map, Contains, refl, sym, ◌∙◌, ap, subst, arith}
use Rattle.acc_stamp.specs.declared.actors.Actor.{Actor}
use Rattle.acc_stamp.specs.Actor.{actor_of}
use Rattle.acc_schedule.specs.Actors.{actors}
use Rattle.acc_free_laws.specs.FreeRun.{alone}
use Rattle.acc_schedule_runs.specs.Disks.{fresh_disks}
use Rattle.acc_actors.specs.Slots.{SlotStands, IsStrictSlot}
use Rattle.acc_run.proofs.Numbers.{node_range}
use Rattle.acc_free.specs.Opened.{desk_actor, rank_of}
use Rattle.acc_free.proofs.Known.{node_known, at_most}
use Rattle.acc_free.proofs.Openings.{node_rank, opened_as}
use Rattle.acc_free_ending.proofs.Steps.{on_ok}
use Rattle.acc_free.proofs.opening.put_node.Goals as goal

not_zero : (n : ℕ) → 1 ≤ n → n * 64 + 0 ≢ 0
not_zero n low is = omega (arith, low, is)

pub actor-own-requires-clause-node_in_range : goal.actor-own-requires-clause-node_in_range
actor-own-requires-clause-node_in_range g c = (node_range c.args.plan.now.topology c.args.number c.requires.is_plan.layout c.requires.known).1

pub fresh_node-slot-requires-clause-rest : goal.fresh_node-slot-requires-clause-rest
fresh_node-slot-requires-clause-rest g c =
    c.in_ok-disk.ensures.fresh.rest

pub put-requires-clause-known : goal.put-requires-clause-known
put-requires-clause-known g c =
    subst (λ (a : Actor). Contains (actors c.args.plan.now.topology) a) (sym c.actor-own.ensures.number) (node_known c.args.plan.now.topology c.args.number c.requires.known)

pub put-requires-clause-some : goal.put-requires-clause-some
put-requires-clause-some g c =
    subst (λ (a : Actor). a.0 ≢ 0) (sym c.actor-own.ensures.number)
    (not_zero c.args.number (node_range c.args.plan.now.topology c.args.number c.requires.is_plan.layout c.requires.known).0)

pub put-requires-clause-opened : goal.put-requires-clause-opened
put-requires-clause-opened g c =
    let d = g.M.D.Disk in
    let low = (node_range c.args.plan.now.topology c.args.number c.requires.is_plan.layout c.requires.known).1 in
    let rank : rank_of c.actor-own.result ≡ c.args.number = ap rank_of c.actor-own.ensures.number ∙ node_rank c.args.number low in
    opened_as d g.J.Planned.strict c.args.plan.now c.args.tape.now _ (map desk_actor c.args.desks.now.items) c.args.number
    (rank_of c.actor-own.result) c.args.first.now c.args.desks.now.items refl (at_most c.args.number (rank_of c.actor-own.result) (sym rank)) c.requires.opened

pub put-requires-clause-slot : goal.put-requires-clause-slot
put-requires-clause-slot g c =
    subst (λ (a : Actor). SlotStands g.M.D.Disk c.args.plan.now (alone [] []) a c.fresh_node-slot.result) (sym c.actor-own.ensures.number) c.fresh_node-slot.ensures.stands

pub put-requires-clause-strict : goal.put-requires-clause-strict
put-requires-clause-strict g c = λ is.
    let d = g.M.D.Disk in
    subst (λ (a : Actor). IsStrictSlot d c.args.plan.now (alone [] []) fresh_disks a c.fresh_node-slot.result) (sym c.actor-own.ensures.number)
    (c.fresh_node-slot.ensures.strict (c.in_ok-disk.ensures.strict (sym c.requires.strict ∙ is), c.in_ok-disk.ensures.fresh.armed))

pub returns-clause-ok : goal.returns-clause-ok
returns-clause-ok g c =
    let d = g.M.D.Disk in
    let own = c.actor-own.result in
    let low = (node_range c.args.plan.now.topology c.args.number c.requires.is_plan.layout c.requires.known).1 in
    let rank : rank_of own ≡ c.args.number = ap rank_of c.actor-own.ensures.number ∙ node_rank c.args.number low in
    on_ok _ _ c.put.result
    (opened_as d g.J.Planned.strict c.args.plan.now c.args.tape.now (map desk_actor c.args.desks.now.items ++ own ∷ [])
    (map desk_actor c.args.desks.now.items ++ actor_of c.args.number 0 ∷ []) (rank_of own + 1) (c.args.number + 1) c.put.new.first c.put.new.desks.items
    (ap (λ (a : Actor). map desk_actor c.args.desks.now.items ++ a ∷ []) c.actor-own.ensures.number) (at_most (rank_of own + 1) (c.args.number + 1) (ap (λ n. n + 1) rank)))
    c.put.ensures.ok
