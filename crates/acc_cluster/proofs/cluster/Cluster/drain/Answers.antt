use Rattle.acc_schedule_runs.specs.Schedules.{cluster_of}
use Rattle.acc_cluster.proofs.Coming.{start, come_on, has_drained}
use Rattle.acc_cluster.proofs.Rounds.{waiting_is_taken, grown_smaller, ends_full, ends_taken}
use Rattle.acc_cluster.proofs.KeepsTested.{by_tests, placed}
use Rattle.acc_cluster.proofs.cluster.Cluster.drain.Goals as goal

pub loop-message-init : goal.loop-message-init
loop-message-init g c = (start g.D.Disk c.args.plan.now c.args.self.now, c.requires.tested)

pub take-requires-clause-standing : goal.take-requires-clause-standing
take-requires-clause-standing g c = λ untested.
    let standing = c.requires.standing untested in
    let come = c.loop-message.invariant.0 standing.0 standing.1 in
    let oldest = c.in-Some.ensures come.reached come.stands.past.stands in
    (come.reached, come.stands, c.in_ok-check_place.ensures.ok come.reached come.stands.past.stands, waiting_is_taken (cluster_of c.args.plan.now) come.reached c.in-Some.message oldest.0)

pub take-requires-clause-tested : goal.take-requires-clause-tested
take-requires-clause-tested g c = λ tests. placed g.D.Disk c.args.plan.now c.loop-message.self (c.loop-message.invariant.1 tests) c.in_ok-check_place.ensures.ok

pub loop-message-smaller : goal.loop-message-smaller
loop-message-smaller g c =
    by_tests _ c.args.tests
    (λ untested.
    let standing = c.requires.standing untested in
    let come = c.loop-message.invariant.0 standing.0 standing.1 in
    grown_smaller c.loop-message.self.history c.take.new.self.history come.reached come.stands.past (c.in_ok-check_place.ensures.ok come.reached come.stands.past.stands) c.in_ok-take.ensures.grown)
    (λ tests.
    let t = c.loop-message.invariant.1 tests in
    grown_smaller c.loop-message.self.history c.take.new.self.history t.entered t.past (c.in_ok-check_place.ensures.ok t.entered t.past.stands) c.in_ok-take.ensures.grown)

pub loop-message-preserved : goal.loop-message-preserved
loop-message-preserved g c = (
  λ s stands.
      let come = c.loop-message.invariant.0 s stands in
      let oldest = c.in-Some.ensures come.reached come.stands.past.stands in
      let place = c.in_ok-check_place.ensures.ok come.reached come.stands.past.stands in
      come_on g.D.Disk c.args.plan.now c.args.self.now s
      c.loop-message.self come c.take.new.self c.in-Some.message oldest
      (c.in_ok-take.ensures.ok 0 come.reached come.stands place (waiting_is_taken (cluster_of c.args.plan.now) come.reached c.in-Some.message oldest.0))
      c.in_ok-take.ensures.counted,
  c.in_ok-take.ensures.tested,
)

pub returns-clause-ok : goal.returns-clause-ok
returns-clause-ok g c = λ s stands.
    let come = c.loop-message.invariant.0 s stands in
    has_drained g.D.Disk c.args.plan.now c.args.self.now s
    c.loop-message.self come (c.in_default.ensures come.reached come.stands.past.stands)

pub returns-in_err-check_place-clause-limit : goal.returns-in_err-check_place-clause-limit
returns-in_err-check_place-clause-limit g c =
    ends_full g.D.Disk c.args.plan.now c.args.self.now
    c.loop-message.self c.in-Some.message c.loop-message.invariant.0 c.in-Some.ensures c.in_err-check_place.field-0.0 c.in_err-check_place.ensures.limit
    c.from_residual.result c.from_residual.ensures.1

pub returns-in_err-take-clause-limit : goal.returns-in_err-take-clause-limit
returns-in_err-take-clause-limit g c =
    ends_taken g.D.Disk c.args.plan.now c.args.self.now
    c.loop-message.self c.in-Some.message c.loop-message.invariant.0 c.in-Some.ensures c.take.new.self c.in_err-take.field-0.0 c.in_err-take.ensures.limit
    c.in_ok-check_place.ensures.ok c.from_residual-in_err-take.result c.from_residual-in_err-take.ensures.1

pub returns-clause-tested : goal.returns-clause-tested
returns-clause-tested g c = c.loop-message.invariant.1
