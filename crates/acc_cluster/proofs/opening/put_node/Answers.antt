-- A node of the plan is opened in its slot.
use Rattle.std.proofs.Common.{◌≡◌, ℕ, ◌==◌, cond, sym, ◌∙◌, ap, subst}
use Rattle.std.specs.List.{slice_index_or}
use Rattle.acc_stamp.specs.declared.actors.Actor.{Actor}
use Rattle.acc_stamp.specs.Actor.{actor_of}
use Rattle.acc_safety.proofs.PlaceOrder.{IsIn-Contains}
use Rattle.acc_run_laws.proofs.Layouts.{node_is}
use Rattle.acc_schedule.specs.Actors.{actors}
use Rattle.acc_schedule.specs.View.{content}
use Rattle.acc_durable_node.specs.Names.{IsNodeName}
use Rattle.acc_actors.specs.declared.slot.Slot.TheVariants.{Empty, Node}
use Rattle.acc_actors.specs.Slots.{node_name}
use Rattle.acc_actors.proofs.Opens.{node_opens}
use Rattle.acc_actors.proofs.NodeRange.{node_range, name_range}
use Rattle.acc_actors.proofs.Unarmed.{node_unarmed}
use Rattle.acc_cluster.proofs.SafeOpened.{node_opens_safe}
use Rattle.acc_cluster.proofs.Filled.{filled_node, filled_node_strictly, on_ok}
use Rattle.acc_cluster.proofs.opening.put_node.Goals as goal

pub actor-place-requires-clause-node_in_range : goal.actor-place-requires-clause-node_in_range
actor-place-requires-clause-node_in_range g c = (node_range c.args.plan.now (content c.plan.inside) (sym c.plan.view_is) c.plan.invariant c.args.number c.requires.known).1

pub opened-opened-requires-clause-named : goal.opened-opened-requires-clause-named
opened-opened-requires-clause-named g c =
    subst IsNodeName (sym (c.requires.node.named ∙ ap (node_name c.args.plan.now) c.requires.number))
    (name_range c.args.plan.now (content c.plan.inside) (sym c.plan.view_is) c.plan.invariant c.args.number c.requires.known)

pub returns-clause-filled : goal.returns-clause-filled
returns-clause-filled g c =
    let plan = c.args.plan.now in
    let number = c.args.number in
    let actor = c.opened-opened.result in
    on_ok c.put.result
    (λ put nodes stores filled.
    filled_node g.D.Disk plan c.args.slots.now.items c.put.new.slots.items nodes stores (Node actor) tt number c.args.node c.requires.number
    (subst (λ (a : Actor). (k : ℕ) → slice_index_or c.put.new.slots.items k Empty ≡ cond (k == a.0) (Node actor) (slice_index_or c.args.slots.now.items k Empty)) c.actor-place.ensures.number put)
    (IsIn-Contains (actor_of number 0) (actors plan.topology) (node_is plan.topology number c.requires.known))
    (λ earlier up did.
    node_opens g.D.Disk plan number c.args.node actor (c.requires.node.named ∙ ap (node_name plan) c.requires.number)
    (λ acts h. c.opened-opened.ensures.stands plan.topology acts h) c.opened-opened.ensures.up earlier up did)
    (node_opens_safe g.D.Disk plan c.args.node actor (λ acts h. c.opened-opened.ensures.stands plan.topology acts h))
    filled)
    c.put.ensures

pub returns-clause-strictly : goal.returns-clause-strictly
returns-clause-strictly g c =
    let d = g.D.Disk in
    let plan = c.args.plan.now in
    let number = c.args.number in
    let actor = c.opened-opened.result in
    on_ok c.put.result
    (λ put nodes stores filled.
    filled_node_strictly d plan c.args.slots.now.items c.put.new.slots.items nodes stores (actor_of number 0) (Node actor)
    (subst (λ (a : Actor). (k : ℕ) → slice_index_or c.put.new.slots.items k Empty ≡ cond (k == a.0) (Node actor) (slice_index_or c.args.slots.now.items k Empty)) c.actor-place.ensures.number put)
    c.args.node
    (λ unarmed earlier.
    node_unarmed d plan number c.args.node.name (d.state c.args.node.journal.disk).armed actor (c.requires.node.named ∙ ap (node_name plan) c.requires.number) unarmed.1
    (λ passed past. c.opened-opened.ensures.strict unarmed.0 plan.topology passed past) earlier)
    filled)
    c.put.ensures
