use Rattle.std.proofs.Common.{rules, ◌∙◌, ap}
use Rattle.acc_schedule.specs.Content.{Content}
use Rattle.std.specs.Prelude.{◌≡◌}
use Rattle.acc_stamp.specs.Actor.{actor_of}
use Rattle.acc_durable_store.specs.Store.{actor_in}
use Rattle.acc_run.proofs.Beginning.{store_fresh, store_kind, fresh_only}
use Rattle.acc_run.proofs.opening.fresh_store.Goals as goal

pub returns-clause-fresh : goal.returns-clause-fresh
returns-clause-fresh g c =
    let t = c.fresh.ensures in
    let named : actor_in c.fresh.result ≡ actor_of c.args.node c.args.shard = search rules in
    store_fresh g.M.D.Disk c.args.plan.now c.fresh.result c.in_ok-disk.disk t.stands (t.given.1 ∙ ap (λ (p : Content). p.version) c.plan.view_is) t.journal.0 t.journal.1 t.journal.2
    (fresh_only g.M.D.Disk c.in_ok-disk.disk c.in_ok-disk.ensures.fresh)
    (store_kind (actor_in c.fresh.result) c.args.node c.args.shard named c.requires.shard.0 c.requires.shard.1)
