use Rattle.std.proofs.Common.{◌≡◌, true, false, Option, None, Some, refl, sym, ◌∙◌, ap, subst}
use Rattle.acc_stamp.specs.declared.actors.Actor.{Actor}
use Rattle.acc_message.specs.declared.entry.Event.TheVariants.{Begin as BeginEvent}
use Rattle.acc_message.specs.declared.item.Skip.{Skip}
use Rattle.acc_message.specs.declared.item.Skip.TheVariants.{Down, Begun}
use Rattle.acc_message.specs.Items.{is_begun}
use Rattle.acc_message.specs.Run.{is_down}
use Rattle.acc_run_laws.specs.Asks.{home_of_txn}
use Rattle.acc_pasts.proofs.Skips.{begin_skip_is}
use Rattle.acc_schedule_runs.specs.Situations.{whole}
use Rattle.acc_schedule_runs.specs.Moves.{begin_skip}
use Rattle.acc_schedule_runs.specs.Schedules.{cluster_of}
use Rattle.acc_cluster.specs.Tried.{scheduled, HasStepped, HitsLimit}
use Rattle.acc_cluster.specs.Steps.{hit}
use Rattle.acc_cluster.proofs.Hits.{full_refused}
use Rattle.acc_cluster.proofs.Taken.{on_ok, if_limit}
use Rattle.acc_cluster.proofs.KeepsTested.{placed}
use Rattle.acc_cluster.proofs.cluster.Cluster.begin.Goals as goal

pub returns-in_err-check_place-clause-limit : goal.returns-in_err-check_place-clause-limit
returns-in_err-check_place-clause-limit g c =
    full_refused g.D.Disk c.args.plan.now c.args.number c.args.self.now (λ s. begin_skip (cluster_of c.args.plan.now) s c.args.txn)
    (λ s. home_of_txn (cluster_of c.args.plan.now) c.args.txn) (BeginEvent c.args.txn) c.from_residual.result c.in_err-check_place.field-0.0 c.from_residual.ensures.1 c.in_err-check_place.ensures.limit

pub returns-then-is_down-clause-ok : goal.returns-then-is_down-clause-ok
returns-then-is_down-clause-ok g c =
    on_ok _ _ c.pass_over.result
    (λ f s h.
    let home = home_of_txn (cluster_of c.args.plan.now) c.args.txn in
    let down = sym (c.is_down.ensures s h.past.stands ∙ ap (λ (a : Actor). is_down a (whole s)) c.home_of-home.ensures) ∙ c.if-is_down.true in
    let some : begin_skip (cluster_of c.args.plan.now) s c.args.txn ≡ Some (Down home) =
    begin_skip_is (cluster_of c.args.plan.now) s c.args.txn true (is_begun (whole s) c.args.txn) down refl in
    subst (λ (skip : Option Skip). HasStepped g.D.Disk c.args.plan.now (scheduled skip c.args.number home (BeginEvent c.args.txn)) c.args.self.now c.pass_over.new.self s)
    (ap (λ (a : Actor). Some (Down a)) c.home_of-home.ensures ∙ sym some)
    (f s home (BeginEvent c.args.txn) h (c.in_ok-check_place.ensures.ok s h.past.stands)))
    c.pass_over.ensures.ok

pub returns-then-is_begun-clause-ok : goal.returns-then-is_begun-clause-ok
returns-then-is_begun-clause-ok g c =
    on_ok _ _ c.pass_over-then-is_begun.result
    (λ f s h.
    let home = home_of_txn (cluster_of c.args.plan.now) c.args.txn in
    let down = sym (c.is_down.ensures s h.past.stands ∙ ap (λ (a : Actor). is_down a (whole s)) c.home_of-home.ensures) ∙ c.if-is_down.false in
    let begun = sym (c.is_begun.ensures s h.past.stands) ∙ c.if-is_begun.true in
    let some : begin_skip (cluster_of c.args.plan.now) s c.args.txn ≡ Some (Begun c.args.txn) = begin_skip_is (cluster_of c.args.plan.now) s c.args.txn false true down begun in
    subst (λ (skip : Option Skip). HasStepped g.D.Disk c.args.plan.now (scheduled skip c.args.number home (BeginEvent c.args.txn)) c.args.self.now c.pass_over-then-is_begun.new.self s)
    (sym some)
    (f s home (BeginEvent c.args.txn) h (c.in_ok-check_place.ensures.ok s h.past.stands)))
    c.pass_over-then-is_begun.ensures.ok

pub returns-clause-ok : goal.returns-clause-ok
returns-clause-ok g c =
    on_ok _ _ c.begin_at.result
    (λ f s h.
    let home = home_of_txn (cluster_of c.args.plan.now) c.args.txn in
    let down = sym (c.is_down.ensures s h.past.stands ∙ ap (λ (a : Actor). is_down a (whole s)) c.home_of-home.ensures) ∙ c.if-is_down.false in
    let begun = sym (c.is_begun.ensures s h.past.stands) ∙ c.if-is_begun.false in
    let none : begin_skip (cluster_of c.args.plan.now) s c.args.txn ≡ None = begin_skip_is (cluster_of c.args.plan.now) s c.args.txn false false down begun in
    subst (λ (skip : Option Skip). HasStepped g.D.Disk c.args.plan.now (scheduled skip c.args.number home (BeginEvent c.args.txn)) c.args.self.now c.begin_at.new.self s) (sym none)
    (subst (λ (a : Actor). HasStepped g.D.Disk c.args.plan.now (scheduled None c.args.number a (BeginEvent c.args.txn)) c.args.self.now c.begin_at.new.self s) c.home_of-home.ensures
    (f c.args.number s h (c.in_ok-check_place.ensures.ok s h.past.stands) none)))
    c.begin_at.ensures.ok

pub returns-clause-limit : goal.returns-clause-limit
returns-clause-limit g c =
    if_limit _ _ c.begin_at.result
    (λ which limit f s h.
    let down = sym (c.is_down.ensures s h.past.stands ∙ ap (λ (a : Actor). is_down a (whole s)) c.home_of-home.ensures) ∙ c.if-is_down.false in
    let begun = sym (c.is_begun.ensures s h.past.stands) ∙ c.if-is_begun.false in
    let none : begin_skip (cluster_of c.args.plan.now) s c.args.txn ≡ None = begin_skip_is (cluster_of c.args.plan.now) s c.args.txn false false down begun in
    subst (λ (skip : Option Skip). HitsLimit g.D.Disk c.args.plan.now (scheduled skip c.args.number (home_of_txn (cluster_of c.args.plan.now) c.args.txn) (BeginEvent c.args.txn)) c.args.self.now c.begin_at.new.self s (hit which limit)) (sym none)
    (subst (λ (a : Actor). HitsLimit g.D.Disk c.args.plan.now (scheduled None c.args.number a (BeginEvent c.args.txn)) c.args.self.now c.begin_at.new.self s (hit which limit)) c.home_of-home.ensures
    (f c.args.number s h (c.in_ok-check_place.ensures.ok s h.past.stands) none)))
    c.begin_at.ensures.limit

pub returns-then-is_down-clause-tested : goal.returns-then-is_down-clause-tested
returns-then-is_down-clause-tested g c = λ tests. c.pass_over.ensures.tested (placed g.D.Disk c.args.plan.now c.args.self.now (c.requires.tested tests) c.in_ok-check_place.ensures.ok)

pub returns-then-is_begun-clause-tested : goal.returns-then-is_begun-clause-tested
returns-then-is_begun-clause-tested g c = λ tests. c.pass_over-then-is_begun.ensures.tested (placed g.D.Disk c.args.plan.now c.args.self.now (c.requires.tested tests) c.in_ok-check_place.ensures.ok)

pub begin_at-requires-clause-tested : goal.begin_at-requires-clause-tested
begin_at-requires-clause-tested g c = λ tests. (placed g.D.Disk c.args.plan.now c.args.self.now (c.requires.tested tests) c.in_ok-check_place.ensures.ok)
