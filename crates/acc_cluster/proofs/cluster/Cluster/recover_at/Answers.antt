use Rattle.std.proofs.Common.{◌≡◌, false, Some, Ok, refl, ap, arith}
use Rattle.acc_base.specs.declared.memory.OutOfMemory.{OutOfMemory as NoMemory}
use Rattle.acc_message.specs.declared.entry.Event.TheVariants.{Recover as RecoverEvent}
use Rattle.acc_message.specs.NodeRules.{Recovers}
use Rattle.acc_schedule.specs.View.{content}
use Rattle.acc_schedule_runs.specs.Situations.{Situation, whole}
use Rattle.acc_message.specs.Run.{is_down}
use Rattle.acc_message.specs.Items.{id_of_txn}
use Rattle.acc_actors.proofs.Few.{steps_up}
use Rattle.acc_cluster.proofs.Going.{body_read, goes_recover}
use Rattle.acc_cluster.proofs.Taken.{on_ok, if_limit, asked_at, sendable_at, taken_ok, taken_limit}
use Rattle.acc_cluster.proofs.KeepsTested.{tested_at, taken_tested}
use Rattle.acc_cluster.proofs.cluster.Cluster.recover_at.Goals as goal

pub recover-requires-clause-asked : goal.recover-requires-clause-asked
recover-requires-clause-asked g c = λ untested.
    let s : Situation = (c.requires.standing untested).0 in
    (s, asked_at g.D.Disk c.args.plan.now c.args.self.now c.args.actor (RecoverEvent c.args.txn) (Recovers c.args.id c.index-as_slice-txn.result) c.index_mut.result.now c.index_mut.ensures.value (omega (arith, c.if-place-len.false, c.len.ensures)) s (c.requires.standing untested).1 (goes_recover c.args.plan.now c.args.txn c.args.id c.index-as_slice-txn.result (body_read c.args.plan.now (content c.plan.inside) c.as_slice.result.now c.args.txn c.index-as_slice-txn.result c.plan.view_is c.as_slice.ensures c.plan.invariant c.requires.known c.index-as_slice-txn.is) c.args.actor c.requires.node (c.requires.standing untested).0 (c.requires.standing untested).3 (c.requires.standing untested).4))

pub recover-requires-clause-safe : goal.recover-requires-clause-safe
recover-requires-clause-safe g c = λ tests.
    tested_at g.D.Disk c.args.plan.now c.args.self.now c.args.actor c.index_mut.result.now c.index_mut.ensures.value (omega (arith, c.if-place-len.false, c.len.ensures)) (c.requires.tested tests)

pub check_given-requires : goal.check_given-requires
check_given-requires g c = λ untested.
    let s : Situation = (c.requires.standing untested).0 in
    let h = (c.requires.standing untested).1 in
    sendable_at g.D.Disk c.args.plan.now c.args.self.now c.args.actor (RecoverEvent c.args.txn) (Recovers c.args.id c.index-as_slice-txn.result) c.index_mut.result.now c.index_mut.ensures.value (omega (arith, c.if-place-len.false, c.len.ensures)) s h (goes_recover c.args.plan.now c.args.txn c.args.id c.index-as_slice-txn.result (body_read c.args.plan.now (content c.plan.inside) c.as_slice.result.now c.args.txn c.index-as_slice-txn.result c.plan.view_is c.as_slice.ensures c.plan.invariant c.requires.known c.index-as_slice-txn.is) c.args.actor c.requires.node (c.requires.standing untested).0 (c.requires.standing untested).3 (c.requires.standing untested).4) c.in_ok-given.given
    (c.in_ok-given.ensures.ok s (asked_at g.D.Disk c.args.plan.now c.args.self.now c.args.actor (RecoverEvent c.args.txn) (Recovers c.args.id c.index-as_slice-txn.result) c.index_mut.result.now c.index_mut.ensures.value (omega (arith, c.if-place-len.false, c.len.ensures)) s h (goes_recover c.args.plan.now c.args.txn c.args.id c.index-as_slice-txn.result (body_read c.args.plan.now (content c.plan.inside) c.as_slice.result.now c.args.txn c.index-as_slice-txn.result c.plan.view_is c.as_slice.ensures c.plan.invariant c.requires.known c.index-as_slice-txn.is) c.args.actor c.requires.node (c.requires.standing untested).0 (c.requires.standing untested).3 (c.requires.standing untested).4))).emitted

pub returns-clause-ok : goal.returns-clause-ok
returns-clause-ok g c =
    on_ok _ _ c.enter_given.result (λ f number s h place down is. f number s h place (down, is)) (taken_ok g.D.Disk c.args.plan.now c.args.self.now c.args.actor (RecoverEvent c.args.txn) (Recovers c.args.id c.index-as_slice-txn.result) c.index_mut.result.now c.index_mut.ensures.value (omega (arith, c.if-place-len.false, c.len.ensures)) c.recover.new.slot c.in_ok-given.given c.in_ok-given.ensures.ok c.in_ok-given.ensures.strict
    (λ s. (is_down c.args.actor (whole s) ≡ false) × (id_of_txn (whole s) c.args.txn ≡ Some c.args.id)) (λ s h p. goes_recover c.args.plan.now c.args.txn c.args.id c.index-as_slice-txn.result (body_read c.args.plan.now (content c.plan.inside) c.as_slice.result.now c.args.txn c.index-as_slice-txn.result c.plan.view_is c.as_slice.ensures c.plan.invariant c.requires.known c.index-as_slice-txn.is) c.args.actor c.requires.node s p.0 p.1) c.enter_given.result _ refl (λ none. c.in_ok-given.ensures.faults.cause (ap Ok none)) c.enter_given.ensures.ok)

pub returns-clause-limit : goal.returns-clause-limit
returns-clause-limit g c =
    if_limit _ _ c.enter_given.result (λ which limit f number s h place down is. f number s h place (down, is)) (taken_limit g.D.Disk c.args.plan.now c.args.self.now c.args.actor (RecoverEvent c.args.txn) (Recovers c.args.id c.index-as_slice-txn.result) c.index_mut.result.now c.index_mut.ensures.value (omega (arith, c.if-place-len.false, c.len.ensures)) c.recover.new.slot c.in_ok-given.given c.in_ok-given.ensures.ok c.in_ok-given.ensures.strict
    (λ s. (is_down c.args.actor (whole s) ≡ false) × (id_of_txn (whole s) c.args.txn ≡ Some c.args.id)) (λ s h p. goes_recover c.args.plan.now c.args.txn c.args.id c.index-as_slice-txn.result (body_read c.args.plan.now (content c.plan.inside) c.as_slice.result.now c.args.txn c.index-as_slice-txn.result c.plan.view_is c.as_slice.ensures c.plan.invariant c.requires.known c.index-as_slice-txn.is) c.args.actor c.requires.node s p.0 p.1) c.enter_given.result _ refl (steps_up {E = NoMemory} (Ok c.in_ok-given.given) _ _ c.in_ok-given.ensures.faults) c.enter_given.ensures.as_before c.enter_given.ensures.limit)

pub returns-clause-tested : goal.returns-clause-tested
returns-clause-tested g c = λ tests.
    taken_tested g.D.Disk c.args.plan.now c.args.self.now c.args.actor c.index_mut.result.now c.index_mut.ensures.value (omega (arith, c.if-place-len.false, c.len.ensures)) c.recover.new.slot _ refl (c.in_ok-given.ensures.safe tests) (RecoverEvent c.args.txn) (λ s past. tt) (c.requires.tested tests) c.enter_given.result c.enter_given.ensures.grown
