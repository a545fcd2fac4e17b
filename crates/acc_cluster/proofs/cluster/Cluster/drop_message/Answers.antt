use Rattle.std.proofs.Common.{◌<◌, refl, subst, arith}
use Rattle.acc_stamp.specs.Actor.{actor_of}
use Rattle.acc_message.specs.declared.entry.Event.TheVariants.{Message as MessageEvent}
use Rattle.acc_message.specs.declared.item.Skip.TheVariants.{NoMessage}
use Rattle.acc_cluster.proofs.Dropped.{none_sent, few_more, changed_dropped, changed_skipped, drop_refused}
use Rattle.acc_cluster.proofs.Taken.{on_ok, if_limit}
use Rattle.acc_cluster.proofs.KeepsTested.{placed, drop_tested}
use Rattle.acc_cluster.proofs.cluster.Cluster.drop_message.Goals as goal

pub returns-then-message-sent-clause-ok : goal.returns-then-message-sent-clause-ok
returns-then-message-sent-clause-ok g c = λ s h.
    let less = subst (λ n. c.args.message < n) (c.sent.ensures s h.past.stands) c.if-message-sent.true in
    changed_dropped g.D.Disk c.args.plan.now c.args.number c.args.message c.args.self.now _ s h less (c.drop_message.ensures.stands s h.past.stands less) (c.drop_message.ensures.weighed s h.past.weighed) refl

pub returns-in_err-check_place-clause-limit : goal.returns-in_err-check_place-clause-limit
returns-in_err-check_place-clause-limit g c =
    drop_refused g.D.Disk c.args.plan.now c.args.number c.args.message c.sent.result c.args.self.now c.from_residual.result c.in_err-check_place.field-0.0 c.sent.ensures
    (omega (arith, c.if-message-sent.false)) c.from_residual.ensures.1 c.in_err-check_place.ensures.limit

pub returns-clause-ok : goal.returns-clause-ok
returns-clause-ok g c =
    on_ok _ _ c.pass_over.result
    (λ f s h.
    let more = none_sent c.args.plan.now s c.args.message c.sent-sent.result (c.sent-sent.ensures s h.past.stands) (few_more c.sent.result c.sent-sent.result c.args.message (c.sent.ensures s h.past.stands) (c.sent-sent.ensures s h.past.stands) (omega (arith, c.if-message-sent.false))) in
    changed_skipped g.D.Disk c.args.plan.now c.args.number c.args.message c.args.self.now c.pass_over.new.self s (NoMessage c.args.message c.sent-sent.result) (actor_of 0 0) (MessageEvent c.args.message) more
    (f s (actor_of 0 0) (MessageEvent c.args.message) h (c.in_ok-check_place.ensures.ok s h.past.stands)))
    c.pass_over.ensures.ok

pub returns-clause-limit : goal.returns-clause-limit
returns-clause-limit g c = if_limit _ _ c.pass_over.result (λ which limit f s h. absurd (f s h (c.in_ok-check_place.ensures.ok s h.past.stands))) c.pass_over.ensures.never

pub returns-then-message-sent-clause-tested : goal.returns-then-message-sent-clause-tested
returns-then-message-sent-clause-tested g c = λ t.
    drop_tested g.D.Disk c.args.plan.now c.args.self.now c.drop_message.new.self c.args.message
    (λ s stands. subst (λ n. c.args.message < n) (c.sent.ensures s stands) c.if-message-sent.true) c.drop_message.ensures.stands c.drop_message.ensures.weighed t

pub returns-clause-tested : goal.returns-clause-tested
returns-clause-tested g c = λ t. c.pass_over.ensures.tested (placed g.D.Disk c.args.plan.now c.args.self.now t c.in_ok-check_place.ensures.ok)
