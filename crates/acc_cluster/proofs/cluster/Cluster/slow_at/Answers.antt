use Rattle.std.proofs.Common.{refl, subst, arith}
use Rattle.std.specs.Vec.{with_item}
use Rattle.acc_message.specs.declared.item.Skip.TheVariants.{Unknown, NoQuorum}
use Rattle.acc_node.specs.declared.error.NodeError.{NodeError}
use Rattle.acc_schedule.specs.Plan.{IsPlan}
use Rattle.acc_actors.specs.Asked.{IsSlowRefused}
use Rattle.acc_cluster.proofs.SlowSteps.{home_of_plan, slowed_sendable, slowed_ok, slowed_limit, refused_ok, refused_limit}
use Rattle.acc_message.specs.declared.entry.Event.TheVariants.{Slow as SlowEvent}
use Rattle.acc_cluster.proofs.KeepsTested.{slot_placed, taken_tested}
use Rattle.acc_cluster.proofs.cluster.Cluster.slow_at.Goals as goal

pub check_given-requires : goal.check_given-requires
check_given-requires g c = λ untested.
    slowed_sendable g.D.Disk c.args.plan.now c.args.self.now c.args.home c.args.txn
    c.index_mut.result.now c.index_mut.ensures.value (omega (arith, c.if-place-len.false, c.len.ensures))
    (home_of_plan c.args.plan.now (subst IsPlan c.plan.view_is c.plan.invariant) c.args.txn c.requires.known c.args.home c.requires.home)
    c.slow.new.slot c.in-Ok.emitted c.in-Ok.ensures.ok (c.requires.standing untested).0 (c.requires.standing untested).1 (c.requires.standing untested).3

pub returns-in_ok-check_given-in-Ok-clause-ok : goal.returns-in_ok-check_given-in-Ok-clause-ok
returns-in_ok-check_given-in-Ok-clause-ok g c =
    slowed_ok g.D.Disk c.args.plan.now c.args.self.now c.args.home c.args.txn
    c.index_mut.result.now c.index_mut.ensures.value (omega (arith, c.if-place-len.false, c.len.ensures))
    (home_of_plan c.args.plan.now (subst IsPlan c.plan.view_is c.plan.invariant) c.args.txn c.requires.known c.args.home c.requires.home)
    c.slow.new.slot c.args.number c.enter_given.result c.in-Ok.emitted c.in-Ok.ensures.ok _ refl c.in-Ok.ensures.strict c.enter_given.ensures.ok

pub returns-in_ok-check_given-in-Ok-clause-limit : goal.returns-in_ok-check_given-in-Ok-clause-limit
returns-in_ok-check_given-in-Ok-clause-limit g c =
    slowed_limit g.D.Disk c.args.plan.now c.args.self.now c.args.home c.args.txn
    c.index_mut.result.now c.index_mut.ensures.value (omega (arith, c.if-place-len.false, c.len.ensures))
    (home_of_plan c.args.plan.now (subst IsPlan c.plan.view_is c.plan.invariant) c.args.txn c.requires.known c.args.home c.requires.home)
    c.slow.new.slot c.args.number c.enter_given.result c.in-Ok.emitted c.in-Ok.ensures.ok _ refl c.in-Ok.ensures.faults c.enter_given.ensures.as_before c.enter_given.ensures.limit

pub returns-in-Err-Unknown-clause-ok : goal.returns-in-Err-Unknown-clause-ok
returns-in-Err-Unknown-clause-ok g c =
    refused_ok g.D.Disk c.args.plan.now c.args.self.now c.args.home c.args.txn
    c.index_mut.result.now c.index_mut.ensures.value (omega (arith, c.if-place-len.false, c.len.ensures))
    (home_of_plan c.args.plan.now (subst IsPlan c.plan.view_is c.plan.invariant) c.args.txn c.requires.known c.args.home c.requires.home)
    c.slow.new.slot c.args.number c.pass_over.result
    (record { alloc = c.args.self.now.alloc; history = c.args.self.now.history; slots = with_item c.args.self.now.slots c.args.home.0 c.slow.new.slot }) refl refl
    c.in-Err-Unknown.ensures.as_before (Unknown c.args.txn)
    (λ s home. subst (λ (e : NodeError). IsSlowRefused c.args.plan.now s c.args.txn e) c.in-Err-Unknown.field-0-is (c.in-Err-Unknown.ensures.refused s home))
    c.pass_over.new.self c.in-Err-Unknown.ensures.faults c.in-Err-Unknown.ensures.strict_as_before c.pass_over.ensures.ok

pub returns-in-Err-Unknown-clause-limit : goal.returns-in-Err-Unknown-clause-limit
returns-in-Err-Unknown-clause-limit g c =
    refused_limit g.D.Disk c.args.plan.now c.args.self.now c.args.home c.args.txn
    c.index_mut.result.now c.index_mut.ensures.value (omega (arith, c.if-place-len.false, c.len.ensures))
    (home_of_plan c.args.plan.now (subst IsPlan c.plan.view_is c.plan.invariant) c.args.txn c.requires.known c.args.home c.requires.home)
    c.slow.new.slot c.args.number c.pass_over.result
    (record { alloc = c.args.self.now.alloc; history = c.args.self.now.history; slots = with_item c.args.self.now.slots c.args.home.0 c.slow.new.slot }) refl refl
    c.in-Err-Unknown.ensures.as_before (Unknown c.args.txn)
    (λ s home. subst (λ (e : NodeError). IsSlowRefused c.args.plan.now s c.args.txn e) c.in-Err-Unknown.field-0-is (c.in-Err-Unknown.ensures.refused s home))
    c.pass_over.new.self c.pass_over.ensures.never

pub returns-in-Err-NoQuorum-clause-ok : goal.returns-in-Err-NoQuorum-clause-ok
returns-in-Err-NoQuorum-clause-ok g c =
    refused_ok g.D.Disk c.args.plan.now c.args.self.now c.args.home c.args.txn
    c.index_mut.result.now c.index_mut.ensures.value (omega (arith, c.if-place-len.false, c.len.ensures))
    (home_of_plan c.args.plan.now (subst IsPlan c.plan.view_is c.plan.invariant) c.args.txn c.requires.known c.args.home c.requires.home)
    c.slow.new.slot c.args.number c.pass_over-in-Err-NoQuorum.result
    (record { alloc = c.args.self.now.alloc; history = c.args.self.now.history; slots = with_item c.args.self.now.slots c.args.home.0 c.slow.new.slot }) refl refl
    c.in-Err-NoQuorum.ensures.as_before (NoQuorum c.args.txn)
    (λ s home. subst (λ (e : NodeError). IsSlowRefused c.args.plan.now s c.args.txn e) c.in-Err-NoQuorum.field-0-is (c.in-Err-NoQuorum.ensures.refused s home))
    c.pass_over-in-Err-NoQuorum.new.self c.in-Err-NoQuorum.ensures.faults c.in-Err-NoQuorum.ensures.strict_as_before c.pass_over-in-Err-NoQuorum.ensures.ok

pub returns-in-Err-NoQuorum-clause-limit : goal.returns-in-Err-NoQuorum-clause-limit
returns-in-Err-NoQuorum-clause-limit g c =
    refused_limit g.D.Disk c.args.plan.now c.args.self.now c.args.home c.args.txn
    c.index_mut.result.now c.index_mut.ensures.value (omega (arith, c.if-place-len.false, c.len.ensures))
    (home_of_plan c.args.plan.now (subst IsPlan c.plan.view_is c.plan.invariant) c.args.txn c.requires.known c.args.home c.requires.home)
    c.slow.new.slot c.args.number c.pass_over-in-Err-NoQuorum.result
    (record { alloc = c.args.self.now.alloc; history = c.args.self.now.history; slots = with_item c.args.self.now.slots c.args.home.0 c.slow.new.slot }) refl refl
    c.in-Err-NoQuorum.ensures.as_before (NoQuorum c.args.txn)
    (λ s home. subst (λ (e : NodeError). IsSlowRefused c.args.plan.now s c.args.txn e) c.in-Err-NoQuorum.field-0-is (c.in-Err-NoQuorum.ensures.refused s home))
    c.pass_over-in-Err-NoQuorum.new.self c.pass_over-in-Err-NoQuorum.ensures.never

pub returns-in_ok-check_given-in-Ok-clause-tested : goal.returns-in_ok-check_given-in-Ok-clause-tested
returns-in_ok-check_given-in-Ok-clause-tested g c = λ tests.
    taken_tested g.D.Disk c.args.plan.now c.args.self.now c.args.home c.index_mut.result.now c.index_mut.ensures.value (omega (arith, c.if-place-len.false, c.len.ensures)) c.slow.new.slot _ refl c.in-Ok.ensures.safe (SlowEvent c.args.txn) (λ s past. tt) (c.requires.tested tests) c.enter_given.result c.enter_given.ensures.grown

pub returns-in-Err-Unknown-clause-tested : goal.returns-in-Err-Unknown-clause-tested
returns-in-Err-Unknown-clause-tested g c = λ tests.
    c.pass_over.ensures.tested
    (slot_placed g.D.Disk c.args.plan.now c.args.self.now c.args.home c.index_mut.result.now c.index_mut.ensures.value (omega (arith, c.if-place-len.false, c.len.ensures)) c.slow.new.slot
    (record { alloc = c.args.self.now.alloc; history = c.args.self.now.history; slots = with_item c.args.self.now.slots c.args.home.0 c.slow.new.slot }) refl refl
    c.in-Err-Unknown.ensures.still_safe (c.requires.tested tests))

pub returns-in-Err-NoQuorum-clause-tested : goal.returns-in-Err-NoQuorum-clause-tested
returns-in-Err-NoQuorum-clause-tested g c = λ tests.
    c.pass_over-in-Err-NoQuorum.ensures.tested
    (slot_placed g.D.Disk c.args.plan.now c.args.self.now c.args.home c.index_mut.result.now c.index_mut.ensures.value (omega (arith, c.if-place-len.false, c.len.ensures)) c.slow.new.slot
    (record { alloc = c.args.self.now.alloc; history = c.args.self.now.history; slots = with_item c.args.self.now.slots c.args.home.0 c.slow.new.slot }) refl refl
    c.in-Err-NoQuorum.ensures.still_safe (c.requires.tested tests))
