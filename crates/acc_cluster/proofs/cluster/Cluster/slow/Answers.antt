use Rattle.std.proofs.Common.{◌≡◌, Option, Some, true, false, sym, ◌∙◌, ap, subst, refl}
use Rattle.acc_stamp.specs.declared.actors.Actor.{Actor}
use Rattle.acc_message.specs.declared.entry.Event.TheVariants.{Slow as SlowEvent}
use Rattle.acc_message.specs.declared.item.Skip.{Skip}
use Rattle.acc_message.specs.declared.item.Skip.TheVariants.{Down}
use Rattle.acc_message.specs.Run.{is_down}
use Rattle.acc_run_laws.specs.Asks.{home_of_txn}
use Rattle.acc_pasts.proofs.Skips.{slowing_skip_is}
use Rattle.acc_schedule_runs.specs.Situations.{whole}
use Rattle.acc_schedule_runs.specs.Moves.{slowing_skip}
use Rattle.acc_schedule_runs.specs.Schedules.{cluster_of}
use Rattle.acc_actors.specs.Asked.{skips_slow}
use Rattle.acc_cluster.specs.Tried.{scheduled, HasStepped, HitsLimit}
use Rattle.acc_cluster.specs.Steps.{hit}
use Rattle.acc_cluster.proofs.Hits.{full_refused}
use Rattle.acc_cluster.proofs.Taken.{on_ok, if_limit}
use Rattle.acc_cluster.proofs.KeepsTested.{placed}
use Rattle.acc_cluster.proofs.cluster.Cluster.slow.Goals as goal

pub returns-in_err-check_place-clause-limit : goal.returns-in_err-check_place-clause-limit
returns-in_err-check_place-clause-limit g c =
    full_refused g.D.Disk c.args.plan.now c.args.number c.args.self.now
    (λ s. slowing_skip (cluster_of c.args.plan.now) s c.args.txn) (λ s. home_of_txn (cluster_of c.args.plan.now) c.args.txn) (SlowEvent c.args.txn) c.from_residual.result c.in_err-check_place.field-0.0
    c.from_residual.ensures.1 c.in_err-check_place.ensures.limit

pub returns-then-is_down-clause-ok : goal.returns-then-is_down-clause-ok
returns-then-is_down-clause-ok g c =
    on_ok _ _ c.pass_over.result
    (λ f s h.
    let home = home_of_txn (cluster_of c.args.plan.now) c.args.txn in
    let down = sym (c.is_down.ensures s h.past.stands ∙ ap (λ (a : Actor). is_down a (whole s)) c.home_of-home.ensures) ∙ c.if-is_down.true in
    let some : slowing_skip (cluster_of c.args.plan.now) s c.args.txn ≡ Some (Down home) =
    slowing_skip_is (cluster_of c.args.plan.now) s c.args.txn true (skips_slow c.args.plan.now s c.args.txn) down refl in
    subst (λ (skip : Option Skip). HasStepped g.D.Disk c.args.plan.now (scheduled skip c.args.number home (SlowEvent c.args.txn)) c.args.self.now c.pass_over.new.self s)
    (ap (λ (a : Actor). Some (Down a)) c.home_of-home.ensures ∙ sym some)
    (f s home (SlowEvent c.args.txn) h (c.in_ok-check_place.ensures.ok s h.past.stands)))
    c.pass_over.ensures.ok

pub returns-clause-ok : goal.returns-clause-ok
returns-clause-ok g c =
    on_ok _ _ c.slow_at.result (λ f s h.
    let up_here = sym (c.is_down.ensures s h.past.stands) ∙ c.if-is_down.false in
    let up = ap (λ (a : Actor). is_down a (whole s)) (sym c.home_of-home.ensures) ∙ up_here in
    subst (λ (skip : Option Skip). HasStepped g.D.Disk c.args.plan.now (scheduled skip c.args.number (home_of_txn (cluster_of c.args.plan.now) c.args.txn) (SlowEvent c.args.txn)) c.args.self.now c.slow_at.new.self s)
    (sym (slowing_skip_is (cluster_of c.args.plan.now) s c.args.txn false (skips_slow c.args.plan.now s c.args.txn) up refl))
    (subst (λ (a : Actor). HasStepped g.D.Disk c.args.plan.now (scheduled (skips_slow c.args.plan.now s c.args.txn) c.args.number a (SlowEvent c.args.txn)) c.args.self.now c.slow_at.new.self s)
    c.home_of-home.ensures (f s h (c.in_ok-check_place.ensures.ok s h.past.stands) up_here)))
    c.slow_at.ensures.ok

pub returns-clause-limit : goal.returns-clause-limit
returns-clause-limit g c =
    if_limit _ _ c.slow_at.result (λ which limit f s h.
    let up_here = sym (c.is_down.ensures s h.past.stands) ∙ c.if-is_down.false in
    let up = ap (λ (a : Actor). is_down a (whole s)) (sym c.home_of-home.ensures) ∙ up_here in
    subst (λ (skip : Option Skip). HitsLimit g.D.Disk c.args.plan.now (scheduled skip c.args.number (home_of_txn (cluster_of c.args.plan.now) c.args.txn) (SlowEvent c.args.txn)) c.args.self.now c.slow_at.new.self s (hit which limit))
    (sym (slowing_skip_is (cluster_of c.args.plan.now) s c.args.txn false (skips_slow c.args.plan.now s c.args.txn) up refl))
    (subst (λ (a : Actor). HitsLimit g.D.Disk c.args.plan.now (scheduled (skips_slow c.args.plan.now s c.args.txn) c.args.number a (SlowEvent c.args.txn)) c.args.self.now c.slow_at.new.self s (hit which limit))
    c.home_of-home.ensures (f s h (c.in_ok-check_place.ensures.ok s h.past.stands) up_here)))
    c.slow_at.ensures.limit

pub returns-then-is_down-clause-tested : goal.returns-then-is_down-clause-tested
returns-then-is_down-clause-tested g c = λ tests. c.pass_over.ensures.tested (placed g.D.Disk c.args.plan.now c.args.self.now (c.requires.tested tests) c.in_ok-check_place.ensures.ok)

pub slow_at-requires-clause-tested : goal.slow_at-requires-clause-tested
slow_at-requires-clause-tested g c = λ tests. (placed g.D.Disk c.args.plan.now c.args.self.now (c.requires.tested tests) c.in_ok-check_place.ensures.ok)
