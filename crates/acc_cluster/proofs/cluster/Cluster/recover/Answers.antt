use Rattle.std.proofs.Common.{◌≡◌, true, false, Option, None, Some, refl, sym, ◌∙◌, ap, subst, arith}
use Rattle.acc_stamp.specs.declared.actors.Actor.{Actor}
use Rattle.acc_stamp.specs.Actor.{actor_of}
use Rattle.acc_message.specs.declared.entry.Event.TheVariants.{Recover as RecoverEvent}
use Rattle.acc_message.specs.declared.item.Skip.{Skip}
use Rattle.acc_message.specs.declared.item.Skip.TheVariants.{Unknown, Down}
use Rattle.acc_message.specs.Items.{is_begun}
use Rattle.acc_message.specs.Run.{is_down}
use Rattle.acc_schedule.specs.View.{content}
use Rattle.acc_actors.proofs.NodeRange.{node_range}
use Rattle.acc_safety.proofs.BegunFacts.{id_was_begun}
use Rattle.acc_pasts.proofs.Skips.{recover_skip_is}
use Rattle.acc_schedule_runs.specs.Situations.{whole}
use Rattle.acc_schedule_runs.specs.Moves.{recover_skip}
use Rattle.acc_schedule_runs.specs.Schedules.{cluster_of}
use Rattle.acc_cluster.specs.Tried.{scheduled, HasStepped, HitsLimit}
use Rattle.acc_cluster.specs.Steps.{hit}
use Rattle.acc_cluster.proofs.Going.{unknown_not_begun}
use Rattle.acc_cluster.proofs.Hits.{full_refused}
use Rattle.acc_cluster.proofs.Homes.{at_is}
use Rattle.acc_cluster.proofs.Taken.{on_ok, if_limit}
use Rattle.acc_cluster.proofs.KeepsTested.{placed}
use Rattle.acc_cluster.proofs.cluster.Cluster.recover.Goals as goal

pub overflow_mul-actor : goal.overflow_mul-actor
overflow_mul-actor g c =
    let low = (node_range c.args.plan.now (content c.plan.inside) (sym c.plan.view_is) c.plan.invariant c.args.node c.requires.known.1).1 in
    omega (arith, low)

pub returns-in_err-check_place-clause-limit : goal.returns-in_err-check_place-clause-limit
returns-in_err-check_place-clause-limit g c =
    full_refused g.D.Disk c.args.plan.now c.args.number c.args.self.now (λ s. recover_skip s c.args.txn c.args.node)
    (λ s. actor_of c.args.node 0) (RecoverEvent c.args.txn) c.from_residual.result c.in_err-check_place.field-0.0 c.from_residual.ensures.1 c.in_err-check_place.ensures.limit

pub returns-then-is_down-clause-ok : goal.returns-then-is_down-clause-ok
returns-then-is_down-clause-ok g c =
    on_ok _ _ c.pass_over.result
    (λ f s h.
    let down = sym (c.is_down.ensures s h.past.stands ∙ ap (λ (a : Actor). is_down a (whole s)) (at_is c.args.node)) ∙ c.if-is_down.true in
    let some : recover_skip s c.args.txn c.args.node ≡ Some (Down (actor_of c.args.node 0)) =
    recover_skip_is (cluster_of c.args.plan.now) s c.args.txn c.args.node true (is_begun (whole s) c.args.txn) down refl in
    subst (λ (skip : Option Skip). HasStepped g.D.Disk c.args.plan.now (scheduled skip c.args.number (actor_of c.args.node 0) (RecoverEvent c.args.txn)) c.args.self.now c.pass_over.new.self s)
    (ap (λ (a : Actor). Some (Down a)) (at_is c.args.node) ∙ sym some)
    (f s (actor_of c.args.node 0) (RecoverEvent c.args.txn) h (c.in_ok-check_place.ensures.ok s h.past.stands)))
    c.pass_over.ensures.ok

pub returns-in_default-clause-ok : goal.returns-in_default-clause-ok
returns-in_default-clause-ok g c =
    on_ok _ _ c.pass_over-in_default.result
    (λ f s h.
    let down = sym (c.is_down.ensures s h.past.stands ∙ ap (λ (a : Actor). is_down a (whole s)) (at_is c.args.node)) ∙ c.if-is_down.false in
    let begun = unknown_not_begun (cluster_of c.args.plan.now) (whole s) c.args.txn h.sound.run.stands (sym (c.id_of.ensures s h.past.stands) ∙ c.in_default.is) in
    let some : recover_skip s c.args.txn c.args.node ≡ Some (Unknown c.args.txn) = recover_skip_is (cluster_of c.args.plan.now) s c.args.txn c.args.node false false down begun in
    subst (λ (skip : Option Skip). HasStepped g.D.Disk c.args.plan.now (scheduled skip c.args.number (actor_of c.args.node 0) (RecoverEvent c.args.txn)) c.args.self.now c.pass_over-in_default.new.self s) (sym some)
    (f s (actor_of c.args.node 0) (RecoverEvent c.args.txn) h (c.in_ok-check_place.ensures.ok s h.past.stands)))
    c.pass_over-in_default.ensures.ok

pub returns-clause-ok : goal.returns-clause-ok
returns-clause-ok g c =
    on_ok _ _ c.recover_at.result
    (λ f s h.
    let up = sym (c.is_down.ensures s h.past.stands) ∙ c.if-is_down.false in
    let id = sym (c.id_of.ensures s h.past.stands) ∙ c.in-Some.is in
    let none : recover_skip s c.args.txn c.args.node ≡ None =
    recover_skip_is (cluster_of c.args.plan.now) s c.args.txn c.args.node false true (sym (ap (λ (a : Actor). is_down a (whole s)) (at_is c.args.node)) ∙ up) (id_was_begun (whole s) c.args.txn c.in-Some.id id) in
    subst (λ (skip : Option Skip). HasStepped g.D.Disk c.args.plan.now (scheduled skip c.args.number (actor_of c.args.node 0) (RecoverEvent c.args.txn)) c.args.self.now c.recover_at.new.self s) (sym none)
    (subst (λ (a : Actor). HasStepped g.D.Disk c.args.plan.now (scheduled None c.args.number a (RecoverEvent c.args.txn)) c.args.self.now c.recover_at.new.self s) (at_is c.args.node)
    (f c.args.number s h (c.in_ok-check_place.ensures.ok s h.past.stands) up id)))
    c.recover_at.ensures.ok

pub returns-clause-limit : goal.returns-clause-limit
returns-clause-limit g c =
    if_limit _ _ c.recover_at.result
    (λ which limit f s h.
    let up = sym (c.is_down.ensures s h.past.stands) ∙ c.if-is_down.false in
    let id = sym (c.id_of.ensures s h.past.stands) ∙ c.in-Some.is in
    let none : recover_skip s c.args.txn c.args.node ≡ None =
    recover_skip_is (cluster_of c.args.plan.now) s c.args.txn c.args.node false true (sym (ap (λ (a : Actor). is_down a (whole s)) (at_is c.args.node)) ∙ up) (id_was_begun (whole s) c.args.txn c.in-Some.id id) in
    subst (λ (skip : Option Skip). HitsLimit g.D.Disk c.args.plan.now (scheduled skip c.args.number (actor_of c.args.node 0) (RecoverEvent c.args.txn)) c.args.self.now c.recover_at.new.self s (hit which limit)) (sym none)
    (subst (λ (a : Actor). HitsLimit g.D.Disk c.args.plan.now (scheduled None c.args.number a (RecoverEvent c.args.txn)) c.args.self.now c.recover_at.new.self s (hit which limit)) (at_is c.args.node)
    (f c.args.number s h (c.in_ok-check_place.ensures.ok s h.past.stands) up id)))
    c.recover_at.ensures.limit

pub returns-then-is_down-clause-tested : goal.returns-then-is_down-clause-tested
returns-then-is_down-clause-tested g c = λ tests. c.pass_over.ensures.tested (placed g.D.Disk c.args.plan.now c.args.self.now (c.requires.tested tests) c.in_ok-check_place.ensures.ok)

pub returns-in_default-clause-tested : goal.returns-in_default-clause-tested
returns-in_default-clause-tested g c = λ tests. c.pass_over-in_default.ensures.tested (placed g.D.Disk c.args.plan.now c.args.self.now (c.requires.tested tests) c.in_ok-check_place.ensures.ok)

pub recover_at-requires-clause-tested : goal.recover_at-requires-clause-tested
recover_at-requires-clause-tested g c = λ tests. (placed g.D.Disk c.args.plan.now c.args.self.now (c.requires.tested tests) c.in_ok-check_place.ensures.ok)
