-- A store of the plan is opened in its slot.
use Rattle.std.proofs.Common.{◌≡◌, ℕ, ◌==◌, cond, sym, ◌∙◌, ap, subst}
use Rattle.std.specs.List.{slice_index_or}
use Rattle.acc_stamp.specs.declared.actors.Actor.{Actor}
use Rattle.acc_message.specs.Run.{is_node}
use Rattle.acc_store.specs.Stands.{actor_of}
use Rattle.acc_durable_store.specs.Store.{actor_in}
use Rattle.acc_schedule.specs.Content.{Content}
use Rattle.acc_schedule_runs.specs.Situations.{opened}
use Rattle.acc_actors.specs.declared.slot.Slot.TheVariants.{Empty, Store}
use Rattle.acc_actors.specs.Slots.{SlotStands}
use Rattle.acc_actors.proofs.Opens.{store_opens}
use Rattle.acc_actors.proofs.Unarmed.{store_unarmed}
use Rattle.acc_cluster.specs.Safe.{most_opened, IsSafe}
use Rattle.acc_cluster.proofs.SafeOpened.{store_opens_safe}
use Rattle.acc_cluster.proofs.Filled.{filled_store, filled_store_strictly, on_ok}
use Rattle.acc_cluster.proofs.opening.put_store.Goals as goal

pub opened-opened-requires-clause-named : goal.opened-opened-requires-clause-named
opened-opened-requires-clause-named g c =
    let owned : c.actor-own.result ≡ actor_in c.args.store = c.actor-own.ensures ∙ ap actor_of c.store.ensures in
    let version = c.requires.store.version_is ∙ sym (ap (λ (p : Content). p.version) c.plan.view_is) in
    λ i. record { actor = sym owned i; version = version i }

pub returns-clause-filled : goal.returns-clause-filled
returns-clause-filled g c =
    let d = g.D.Disk in
    let plan = c.args.plan.now in
    let actor = c.opened-opened.result in
    let own = c.actor-own.result in
    let owned : own ≡ actor_in c.args.store = c.actor-own.ensures ∙ ap actor_of c.store.ensures in
    let version = ap (λ (p : Content). p.version) c.plan.view_is in
    on_ok c.put.result
    (λ put nodes stores filled.
    filled_store d plan c.args.slots.now.items c.put.new.slots.items nodes stores (Store actor) tt c.args.store
    (subst (λ (a : Actor). (k : ℕ) → slice_index_or c.put.new.slots.items k Empty ≡ cond (k == a.0) (Store actor) (slice_index_or c.args.slots.now.items k Empty)) owned put)
    c.requires.number.member
    (λ earlier up took.
    subst (λ (a : Actor). SlotStands d plan (opened earlier) a (Store actor)) owned
    (store_opens d plan c.args.store own (record { actor = own; version = c.plan.inside.version }) actor (sym owned) (ap is_node owned ∙ c.requires.number.kind)
    (λ i. record { actor = own; version = version i })
    (λ messages h. c.opened-opened.ensures.stands plan.topology messages h) c.opened-opened.ensures.up earlier up took))
    (λ took. subst (λ (a : Actor). IsSafe d plan most_opened a (Store actor)) owned (store_opens_safe d plan c.args.store own c.plan.inside.version actor (sym owned) version (λ messages h. c.opened-opened.ensures.stands plan.topology messages h) took))
    filled)
    c.put.ensures

pub returns-clause-strictly : goal.returns-clause-strictly
returns-clause-strictly g c =
    let d = g.D.Disk in
    let plan = c.args.plan.now in
    let actor = c.opened-opened.result in
    let own = c.actor-own.result in
    let version = ap (λ (p : Content). p.version) c.plan.view_is in
    on_ok c.put.result
    (λ put nodes stores filled.
    filled_store_strictly d plan c.args.slots.now.items c.put.new.slots.items nodes stores own (Store actor) put c.args.store
    (λ unarmed earlier.
    store_unarmed d plan own (record { actor = own; version = c.plan.inside.version }) (d.state c.args.store.journal.disk).armed actor (λ i. record { actor = own; version = version i }) unarmed.1
    (λ passed past. c.opened-opened.ensures.strict unarmed.0 plan.topology passed past) earlier)
    filled)
    c.put.ensures
