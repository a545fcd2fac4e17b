use Rattle.std.proofs.Common.{◌≡◌, None, Ok, refl, sym, ◌∙◌, ap, subst, arith}
use Rattle.std.specs.Option.{option_copied}
use Rattle.std.specs.Vec.{with_item}
use Rattle.acc_cluster.specs.declared.cluster.Cluster.{Cluster}
use Rattle.acc_base.specs.declared.memory.OutOfMemory.{OutOfMemory as NoMemory}
use Rattle.acc_stamp.specs.declared.actors.Actor.{Actor}
use Rattle.acc_message.specs.declared.entry.Event.TheVariants.{Message as MessageEvent}
use Rattle.acc_message.specs.NodeRules.{Takes}
use Rattle.acc_run_laws.specs.Asks.{receiver}
use Rattle.acc_schedule_runs.specs.Situations.{Situation}
use Rattle.acc_schedule_runs.specs.Moves.{deliver_skip}
use Rattle.acc_cluster.specs.Tried.{scheduled, HasStepped, HitsLimit}
use Rattle.acc_cluster.specs.Steps.{hit}
use Rattle.acc_actors.proofs.Few.{steps_up}
use Rattle.acc_cluster.proofs.Going.{goes_take}
use Rattle.acc_cluster.proofs.Taken.{on_ok, if_limit, asked_at, sendable_at, taken_counted, taken_ok, taken_limit}
use Rattle.acc_cluster.proofs.KeepsTested.{sent_before, tested_at, taken_tested}
use Rattle.acc_cluster.proofs.cluster.Cluster.take.Goals as goal

pub take-requires-clause-asked : goal.take-requires-clause-asked
take-requires-clause-asked g c = λ untested.
    let s : Situation = (c.requires.standing untested).0 in
    let h = (c.requires.standing untested).1 in
    (s, asked_at g.D.Disk c.args.plan.now c.args.self.now c.to-actor.result (MessageEvent c.args.message) (Takes c.in-Some.m.now) c.index_mut.result.now c.index_mut.ensures.value (omega (arith, c.if-place-len.false, c.len.ensures)) s h (goes_take c.args.plan.now c.args.message c.in-Some.m.now c.to-actor.result c.to-actor.ensures s h.sound (sym (c.message.ensures s h.past.stands) ∙ ap option_copied c.in-Some.is) (c.requires.standing untested).3))

pub take-requires-clause-safe : goal.take-requires-clause-safe
take-requires-clause-safe g c = λ tests.
    tested_at g.D.Disk c.args.plan.now c.args.self.now c.to-actor.result c.index_mut.result.now c.index_mut.ensures.value (omega (arith, c.if-place-len.false, c.len.ensures)) (c.requires.tested tests)

pub check_given-requires : goal.check_given-requires
check_given-requires g c = λ untested.
    let s : Situation = (c.requires.standing untested).0 in
    let h = (c.requires.standing untested).1 in
    sendable_at g.D.Disk c.args.plan.now c.args.self.now c.to-actor.result (MessageEvent c.args.message) (Takes c.in-Some.m.now) c.index_mut.result.now c.index_mut.ensures.value (omega (arith, c.if-place-len.false, c.len.ensures)) s h (goes_take c.args.plan.now c.args.message c.in-Some.m.now c.to-actor.result c.to-actor.ensures s h.sound (sym (c.message.ensures s h.past.stands) ∙ ap option_copied c.in-Some.is) (c.requires.standing untested).3) c.in_ok-given.given
    (c.in_ok-given.ensures.ok s (asked_at g.D.Disk c.args.plan.now c.args.self.now c.to-actor.result (MessageEvent c.args.message) (Takes c.in-Some.m.now) c.index_mut.result.now c.index_mut.ensures.value (omega (arith, c.if-place-len.false, c.len.ensures)) s h (goes_take c.args.plan.now c.args.message c.in-Some.m.now c.to-actor.result c.to-actor.ensures s h.sound (sym (c.message.ensures s h.past.stands) ∙ ap option_copied c.in-Some.is) (c.requires.standing untested).3))).emitted

pub returns-clause-ok : goal.returns-clause-ok
returns-clause-ok g c =
    let new : Cluster g.row.D.Denot =
    record { alloc = c.args.self.now.alloc; history = c.enter_given.new.history; slots = with_item c.args.self.now.slots c.to-actor.result.0 c.take.new.slot } in
    on_ok _ _ c.enter_given.result
    (λ f number s h place none.
    subst (λ (a : Actor). HasStepped g.D.Disk c.args.plan.now (scheduled None number a (MessageEvent c.args.message)) c.args.self.now new s)
    (c.to-actor.ensures ∙ sym (ap receiver (sym (c.message.ensures s h.past.stands) ∙ ap option_copied c.in-Some.is))) (f number s h place none))
    (taken_ok g.D.Disk c.args.plan.now c.args.self.now c.to-actor.result (MessageEvent c.args.message) (Takes c.in-Some.m.now) c.index_mut.result.now c.index_mut.ensures.value (omega (arith, c.if-place-len.false, c.len.ensures)) c.take.new.slot c.in_ok-given.given c.in_ok-given.ensures.ok c.in_ok-given.ensures.strict
    (λ s. deliver_skip s c.args.message ≡ None) (λ s h p. goes_take c.args.plan.now c.args.message c.in-Some.m.now c.to-actor.result c.to-actor.ensures s h.sound (sym (c.message.ensures s h.past.stands) ∙ ap option_copied c.in-Some.is) p) c.enter_given.result new refl (λ none. c.in_ok-given.ensures.faults.cause (ap Ok none)) c.enter_given.ensures.ok)

pub returns-clause-limit : goal.returns-clause-limit
returns-clause-limit g c =
    let new : Cluster g.row.D.Denot =
    record { alloc = c.args.self.now.alloc; history = c.enter_given.new.history; slots = with_item c.args.self.now.slots c.to-actor.result.0 c.take.new.slot } in
    if_limit _ _ c.enter_given.result
    (λ which limit f number s h place none.
    subst (λ (a : Actor). HitsLimit g.D.Disk c.args.plan.now (scheduled None number a (MessageEvent c.args.message)) c.args.self.now new s (hit which limit))
    (c.to-actor.ensures ∙ sym (ap receiver (sym (c.message.ensures s h.past.stands) ∙ ap option_copied c.in-Some.is))) (f number s h place none))
    (taken_limit g.D.Disk c.args.plan.now c.args.self.now c.to-actor.result (MessageEvent c.args.message) (Takes c.in-Some.m.now) c.index_mut.result.now c.index_mut.ensures.value (omega (arith, c.if-place-len.false, c.len.ensures)) c.take.new.slot c.in_ok-given.given c.in_ok-given.ensures.ok c.in_ok-given.ensures.strict
    (λ s. deliver_skip s c.args.message ≡ None) (λ s h p. goes_take c.args.plan.now c.args.message c.in-Some.m.now c.to-actor.result c.to-actor.ensures s h.sound (sym (c.message.ensures s h.past.stands) ∙ ap option_copied c.in-Some.is) p) c.enter_given.result new refl (steps_up {E = NoMemory} (Ok c.in_ok-given.given) _ _ c.in_ok-given.ensures.faults) c.enter_given.ensures.as_before c.enter_given.ensures.limit)

pub returns-clause-counted : goal.returns-clause-counted
returns-clause-counted g c =
    on_ok _ _ c.enter_given.result (λ any a known. taken_counted g.D.Disk c.args.plan.now c.args.self.now c.to-actor.result (MessageEvent c.args.message) (Takes c.in-Some.m.now) c.index_mut.result.now c.index_mut.ensures.value (omega (arith, c.if-place-len.false, c.len.ensures)) _ c.take.new.slot refl (steps_up {E = NoMemory} (Ok c.in_ok-given.given) _ _ c.in_ok-given.ensures.faults) a) c.enter_given.ensures.ok

pub returns-clause-tested : goal.returns-clause-tested
returns-clause-tested g c = λ tests.
    taken_tested g.D.Disk c.args.plan.now c.args.self.now c.to-actor.result c.index_mut.result.now c.index_mut.ensures.value (omega (arith, c.if-place-len.false, c.len.ensures)) c.take.new.slot _ refl (c.in_ok-given.ensures.safe tests) (MessageEvent c.args.message) (λ s past. sent_before s c.args.message c.in-Some.m.now (sym (c.message.ensures s past.stands) ∙ ap option_copied c.in-Some.is)) (c.requires.tested tests) c.enter_given.result c.enter_given.ensures.grown

pub returns-clause-grown : goal.returns-clause-grown
returns-clause-grown g c =
    on_ok _ _ c.enter_given.result (λ grow s past place. grow s past place (sent_before s c.args.message c.in-Some.m.now (sym (c.message.ensures s past.stands) ∙ ap option_copied c.in-Some.is))) c.enter_given.ensures.grown
