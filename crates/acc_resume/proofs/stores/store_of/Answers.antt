-- The store of a journal.
use Rattle.std.proofs.Common.{◌≡◌, ℕ, ◌≤◌, ◌^◌, ◌∙◌, ap, subst}
use Rattle.acc_ports.specs.MemoryDisk.{MemoryDisk}
use Rattle.acc_topology.specs.Layout.{Layout}
use Rattle.acc_schedule.specs.Content.{Content}
use Rattle.acc_durable_store.specs.declared.store.DurableStore.{DurableStore}
use Rattle.acc_durable_store.specs.Store.{actor_in, IsReopened}
use Rattle.acc_resume.specs.Opened.{memory, IsOpenedStore}
use Rattle.acc_resume.proofs.Opened.{if_same, opened_store}
use Rattle.acc_resume.proofs.stores.store_of.Goals as goal

pub returns-in-Ok-clause-actor : goal.returns-in-Ok-clause-actor
returns-in-Ok-clause-actor c =
    if_same (λ (t : DurableStore MemoryDisk). actor_in t ≡ c.args.own) (λ (t : DurableStore MemoryDisk). t.kept ≤ 2 ^ 60) c.short_of.result c.in-Ok.store
    c.short_of.ensures.same c.short_of.ensures.few (λ few. c.in-Ok.ensures.given.0)

pub returns-in-Ok-clause-opened : goal.returns-in-Ok-clause-opened
returns-in-Ok-clause-opened c =
    let plan = c.args.plan.now in
    let images = c.args.images.now in
    let e = c.in-Ok.ensures in
    if_same (IsOpenedStore memory plan images) (λ (t : DurableStore MemoryDisk). t.kept ≤ 2 ^ 60) c.short_of.result c.in-Ok.store c.short_of.ensures.same
    c.short_of.ensures.few
    (λ few. opened_store memory plan images c.requires.left c.args.own c.requires.kind c.in_ok-disk.disk c.in-Ok.store c.in_ok-disk.ensures
    (subst (λ (l : Layout). IsReopened {D = MemoryDisk} l c.in-Ok.store c.in-Ok.store.journal.payloads) (ap (λ (p : Content). p.topology) c.plan.view_is) e.ok) e.given.0
    (e.given.1 ∙ ap (λ (p : Content). p.version) c.plan.view_is) e.reads
    (subst (λ (n : ℕ). n ≤ 2 ^ 60) e.kept few) e.disk
    (λ known s keeps has room. (c.reopened_actors_stand.ensures plan s keeps images c.requires.is_plan has room).stores c.args.own known c.requires.kind))
