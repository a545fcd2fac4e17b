use Rattle.std.proofs.Common.{◌≡◌, None, Ok, refl, ap, subst, arith}
use Rattle.acc_base.specs.declared.memory.OutOfMemory.{OutOfMemory as NoMemory}
use Rattle.acc_message.specs.declared.entry.Event.TheVariants.{Begin as BeginEvent}
use Rattle.acc_message.specs.NodeRules.{Begins}
use Rattle.acc_schedule.specs.Plan.{IsPlan}
use Rattle.acc_schedule.specs.View.{content}
use Rattle.acc_schedule_runs.specs.Situations.{Situation}
use Rattle.acc_schedule_runs.specs.Moves.{begin_skip}
use Rattle.acc_schedule_runs.specs.Schedules.{cluster_of}
use Rattle.acc_actors.proofs.Few.{steps_up}
use Rattle.acc_cluster.proofs.Going.{body_read, goes_begin}
use Rattle.acc_cluster.proofs.Taken.{asked_at, sendable_at, taken_ok, taken_limit}
use Rattle.acc_cluster.proofs.KeepsTested.{tested_at, taken_tested}
use Rattle.acc_cluster.proofs.cluster.Cluster.begin_at.Goals as goal

pub begin-requires-clause-asked : goal.begin-requires-clause-asked
begin-requires-clause-asked g c = λ untested.
    let s : Situation = (c.requires.standing untested).0 in
    (s, asked_at g.D.Disk c.args.plan.now c.args.self.now c.args.home (BeginEvent c.args.txn) (Begins c.args.txn c.index-as_slice-txn.result) c.index_mut.result.now c.index_mut.ensures.value (omega (arith, c.if-place-len.false, c.len.ensures)) s (c.requires.standing untested).1 (goes_begin c.args.plan.now (subst IsPlan c.plan.view_is c.plan.invariant) c.args.txn c.requires.known c.index-as_slice-txn.result (body_read c.args.plan.now (content c.plan.inside) c.as_slice.result.now c.args.txn c.index-as_slice-txn.result c.plan.view_is c.as_slice.ensures c.plan.invariant c.requires.known c.index-as_slice-txn.is) c.args.home c.requires.home (c.requires.standing untested).0 (c.requires.standing untested).1.sound (c.requires.standing untested).3))

pub begin-requires-clause-safe : goal.begin-requires-clause-safe
begin-requires-clause-safe g c = λ tests.
    tested_at g.D.Disk c.args.plan.now c.args.self.now c.args.home c.index_mut.result.now c.index_mut.ensures.value (omega (arith, c.if-place-len.false, c.len.ensures)) (c.requires.tested tests)

pub check_given-requires : goal.check_given-requires
check_given-requires g c = λ untested.
    let s : Situation = (c.requires.standing untested).0 in
    let h = (c.requires.standing untested).1 in
    sendable_at g.D.Disk c.args.plan.now c.args.self.now c.args.home (BeginEvent c.args.txn) (Begins c.args.txn c.index-as_slice-txn.result) c.index_mut.result.now c.index_mut.ensures.value (omega (arith, c.if-place-len.false, c.len.ensures)) s h (goes_begin c.args.plan.now (subst IsPlan c.plan.view_is c.plan.invariant) c.args.txn c.requires.known c.index-as_slice-txn.result (body_read c.args.plan.now (content c.plan.inside) c.as_slice.result.now c.args.txn c.index-as_slice-txn.result c.plan.view_is c.as_slice.ensures c.plan.invariant c.requires.known c.index-as_slice-txn.is) c.args.home c.requires.home (c.requires.standing untested).0 (c.requires.standing untested).1.sound (c.requires.standing untested).3) c.in_ok-given.given
    (c.in_ok-given.ensures.ok s (asked_at g.D.Disk c.args.plan.now c.args.self.now c.args.home (BeginEvent c.args.txn) (Begins c.args.txn c.index-as_slice-txn.result) c.index_mut.result.now c.index_mut.ensures.value (omega (arith, c.if-place-len.false, c.len.ensures)) s h (goes_begin c.args.plan.now (subst IsPlan c.plan.view_is c.plan.invariant) c.args.txn c.requires.known c.index-as_slice-txn.result (body_read c.args.plan.now (content c.plan.inside) c.as_slice.result.now c.args.txn c.index-as_slice-txn.result c.plan.view_is c.as_slice.ensures c.plan.invariant c.requires.known c.index-as_slice-txn.is) c.args.home c.requires.home (c.requires.standing untested).0 (c.requires.standing untested).1.sound (c.requires.standing untested).3))).emitted

pub returns-clause-ok : goal.returns-clause-ok
returns-clause-ok g c =
    taken_ok g.D.Disk c.args.plan.now c.args.self.now c.args.home (BeginEvent c.args.txn) (Begins c.args.txn c.index-as_slice-txn.result) c.index_mut.result.now c.index_mut.ensures.value (omega (arith, c.if-place-len.false, c.len.ensures)) c.begin.new.slot c.in_ok-given.given c.in_ok-given.ensures.ok c.in_ok-given.ensures.strict
    (λ s. begin_skip (cluster_of c.args.plan.now) s c.args.txn ≡ None) (λ s h p. goes_begin c.args.plan.now (subst IsPlan c.plan.view_is c.plan.invariant) c.args.txn c.requires.known c.index-as_slice-txn.result (body_read c.args.plan.now (content c.plan.inside) c.as_slice.result.now c.args.txn c.index-as_slice-txn.result c.plan.view_is c.as_slice.ensures c.plan.invariant c.requires.known c.index-as_slice-txn.is) c.args.home c.requires.home s h.sound p) c.enter_given.result _ refl (λ none. c.in_ok-given.ensures.faults.cause (ap Ok none)) c.enter_given.ensures.ok

pub returns-clause-limit : goal.returns-clause-limit
returns-clause-limit g c =
    taken_limit g.D.Disk c.args.plan.now c.args.self.now c.args.home (BeginEvent c.args.txn) (Begins c.args.txn c.index-as_slice-txn.result) c.index_mut.result.now c.index_mut.ensures.value (omega (arith, c.if-place-len.false, c.len.ensures)) c.begin.new.slot c.in_ok-given.given c.in_ok-given.ensures.ok c.in_ok-given.ensures.strict
    (λ s. begin_skip (cluster_of c.args.plan.now) s c.args.txn ≡ None) (λ s h p. goes_begin c.args.plan.now (subst IsPlan c.plan.view_is c.plan.invariant) c.args.txn c.requires.known c.index-as_slice-txn.result (body_read c.args.plan.now (content c.plan.inside) c.as_slice.result.now c.args.txn c.index-as_slice-txn.result c.plan.view_is c.as_slice.ensures c.plan.invariant c.requires.known c.index-as_slice-txn.is) c.args.home c.requires.home s h.sound p) c.enter_given.result _ refl (steps_up {E = NoMemory} (Ok c.in_ok-given.given) _ _ c.in_ok-given.ensures.faults) c.enter_given.ensures.as_before c.enter_given.ensures.limit

pub returns-clause-tested : goal.returns-clause-tested
returns-clause-tested g c = λ tests.
    taken_tested g.D.Disk c.args.plan.now c.args.self.now c.args.home c.index_mut.result.now c.index_mut.ensures.value (omega (arith, c.if-place-len.false, c.len.ensures)) c.begin.new.slot _ refl (c.in_ok-given.ensures.safe tests) (BeginEvent c.args.txn) (λ s past. tt) (c.requires.tested tests) c.enter_given.result c.enter_given.ensures.grown
