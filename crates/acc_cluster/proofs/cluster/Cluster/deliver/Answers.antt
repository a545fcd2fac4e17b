use Rattle.std.proofs.Common.{◌≡◌, true, false, Option, None, Some, length, sym, ◌∙◌, ap, subst}
use Rattle.std.specs.Option.{option_copied}
use Rattle.std.proofs.lemmas.Option.{slice_get_within}
use Rattle.acc_stamp.specs.declared.actors.Actor.{Actor}
use Rattle.acc_message.specs.declared.entry.Event.TheVariants.{Message as MessageEvent}
use Rattle.acc_message.specs.declared.item.Skip.{Skip}
use Rattle.acc_message.specs.declared.item.Skip.TheVariants.{Down}
use Rattle.acc_message.specs.Items.{sent_of}
use Rattle.acc_message.specs.Run.{is_down}
use Rattle.acc_run_laws.specs.Asks.{receiver}
use Rattle.acc_pasts.proofs.Skips.{deliver_skip_is}
use Rattle.acc_schedule_runs.specs.Situations.{whole, receiver_in}
use Rattle.acc_schedule_runs.specs.Moves.{deliver_skip}
use Rattle.acc_schedule_runs.specs.Schedules.{cluster_of}
use Rattle.acc_cluster.specs.Tried.{scheduled, HasStepped, HitsLimit}
use Rattle.acc_cluster.specs.Steps.{hit}
use Rattle.acc_cluster.proofs.Dropped.{less_is, nothing_sent}
use Rattle.acc_cluster.proofs.Hits.{full_refused}
use Rattle.acc_cluster.proofs.Taken.{on_ok, if_limit}
use Rattle.acc_cluster.proofs.KeepsTested.{placed}
use Rattle.acc_cluster.proofs.cluster.Cluster.deliver.Goals as goal

pub returns-in_err-check_place-clause-limit : goal.returns-in_err-check_place-clause-limit
returns-in_err-check_place-clause-limit g c =
    full_refused g.D.Disk c.args.plan.now c.args.number c.args.self.now (λ s. deliver_skip s c.args.message)
    (λ s. receiver_in s c.args.message) (MessageEvent c.args.message) c.from_residual.result c.in_err-check_place.field-0.0 c.from_residual.ensures.1 c.in_err-check_place.ensures.limit

pub returns-in_default-clause-ok : goal.returns-in_default-clause-ok
returns-in_default-clause-ok g c =
    on_ok _ _ c.pass_over.result
    (λ f s h.
    let some = nothing_sent c.args.plan.now s c.args.message c.sent-sent.result (c.sent-sent.ensures s h.past.stands) (sym (c.message.ensures s h.past.stands) ∙ ap option_copied c.in_default.is) in
    subst (λ (skip : Option Skip). HasStepped g.D.Disk c.args.plan.now (scheduled skip c.args.number (receiver_in s c.args.message) (MessageEvent c.args.message)) c.args.self.now c.pass_over.new.self s) (sym some)
    (f s (receiver_in s c.args.message) (MessageEvent c.args.message) h (c.in_ok-check_place.ensures.ok s h.past.stands)))
    c.pass_over.ensures.ok

pub returns-then-is_down-clause-ok : goal.returns-then-is_down-clause-ok
returns-then-is_down-clause-ok g c =
    on_ok _ _ c.pass_over-then-is_down.result
    (λ f s h.
    let found = sym (c.message.ensures s h.past.stands) ∙ ap option_copied c.in-Some.is in
    let to = c.to-actor.ensures ∙ sym (ap receiver found) in
    let down = sym (c.is_down.ensures s h.past.stands ∙ ap (λ (a : Actor). is_down a (whole s)) to) ∙ c.if-is_down.true in
    let some = deliver_skip_is (cluster_of c.args.plan.now) s c.args.message true true (less_is c.args.message (length (sent_of s.own)) (slice_get_within (sent_of s.own) c.args.message c.in-Some.m.now found)) down in
    subst (λ (skip : Option Skip). HasStepped g.D.Disk c.args.plan.now (scheduled skip c.args.number (receiver_in s c.args.message) (MessageEvent c.args.message)) c.args.self.now c.pass_over-then-is_down.new.self s)
    (ap (λ (a : Actor). Some (Down a)) to ∙ sym some)
    (f s (receiver_in s c.args.message) (MessageEvent c.args.message) h (c.in_ok-check_place.ensures.ok s h.past.stands)))
    c.pass_over-then-is_down.ensures.ok

pub returns-clause-ok : goal.returns-clause-ok
returns-clause-ok g c =
    on_ok _ _ c.take.result
    (λ f s h.
    let found = sym (c.message.ensures s h.past.stands) ∙ ap option_copied c.in-Some.is in
    let to = c.to-actor.ensures ∙ sym (ap receiver found) in
    let up = sym (c.is_down.ensures s h.past.stands ∙ ap (λ (a : Actor). is_down a (whole s)) to) ∙ c.if-is_down.false in
    let none : deliver_skip s c.args.message ≡ None =
    deliver_skip_is (cluster_of c.args.plan.now) s c.args.message true false (less_is c.args.message (length (sent_of s.own)) (slice_get_within (sent_of s.own) c.args.message c.in-Some.m.now found)) up in
    subst (λ (skip : Option Skip). HasStepped g.D.Disk c.args.plan.now (scheduled skip c.args.number (receiver_in s c.args.message) (MessageEvent c.args.message)) c.args.self.now c.take.new.self s) (sym none)
    (f c.args.number s h (c.in_ok-check_place.ensures.ok s h.past.stands) none))
    c.take.ensures.ok

pub returns-clause-limit : goal.returns-clause-limit
returns-clause-limit g c =
    if_limit _ _ c.take.result
    (λ which limit f s h.
    let found = sym (c.message.ensures s h.past.stands) ∙ ap option_copied c.in-Some.is in
    let to = c.to-actor.ensures ∙ sym (ap receiver found) in
    let up = sym (c.is_down.ensures s h.past.stands ∙ ap (λ (a : Actor). is_down a (whole s)) to) ∙ c.if-is_down.false in
    let none : deliver_skip s c.args.message ≡ None =
    deliver_skip_is (cluster_of c.args.plan.now) s c.args.message true false (less_is c.args.message (length (sent_of s.own)) (slice_get_within (sent_of s.own) c.args.message c.in-Some.m.now found)) up in
    subst (λ (skip : Option Skip). HitsLimit g.D.Disk c.args.plan.now (scheduled skip c.args.number (receiver_in s c.args.message) (MessageEvent c.args.message)) c.args.self.now c.take.new.self s (hit which limit)) (sym none)
    (f c.args.number s h (c.in_ok-check_place.ensures.ok s h.past.stands) none))
    c.take.ensures.limit

pub returns-in_default-clause-tested : goal.returns-in_default-clause-tested
returns-in_default-clause-tested g c = λ tests. c.pass_over.ensures.tested (placed g.D.Disk c.args.plan.now c.args.self.now (c.requires.tested tests) c.in_ok-check_place.ensures.ok)

pub returns-then-is_down-clause-tested : goal.returns-then-is_down-clause-tested
returns-then-is_down-clause-tested g c = λ tests. c.pass_over-then-is_down.ensures.tested (placed g.D.Disk c.args.plan.now c.args.self.now (c.requires.tested tests) c.in_ok-check_place.ensures.ok)

pub take-requires-clause-tested : goal.take-requires-clause-tested
take-requires-clause-tested g c = λ tests. (placed g.D.Disk c.args.plan.now c.args.self.now (c.requires.tested tests) c.in_ok-check_place.ensures.ok)
