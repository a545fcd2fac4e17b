use Rattle.acc_cluster.proofs.RestartClusters.{place_ends, down_enters, up_back, up_enters, up_ends}
use Rattle.std.proofs.Common.{sym, subst}
use Rattle.acc_message.specs.declared.item.Item.TheVariants.{Down}
use Rattle.acc_schedule_runs.specs.Schedules.{cluster_of}
use Rattle.acc_history.specs.declared.history.History.{History}
use Rattle.acc_cluster.specs.Entering.{IsPastOf}
use Rattle.acc_cluster.specs.Tested.{most_in}
use Rattle.acc_cluster.proofs.Taken.{on_ok}
use Rattle.acc_cluster.proofs.KeepsTested.{by_tests, at_least, grown_by, reopened_tested, kept_back, kept_sends}
use Rattle.acc_cluster.proofs.cluster.Cluster.restart.Goals as goal

pub returns-in_err-check_place-clause-limit : goal.returns-in_err-check_place-clause-limit
returns-in_err-check_place-clause-limit g c =
    place_ends g.D.Disk
    c.args.plan.now c.args.actor c.args.choice c.args.self.now c.requires.known
    c.from_residual.result c.in_err-check_place.field-0.0 c.from_residual.ensures.1 c.in_err-check_place.ensures.limit

pub come_up-requires : goal.come_up-requires
come_up-requires g c =
    by_tests _ c.args.tests
    (λ untested.
    let standing = c.requires.standing untested in
    let back =
    up_back g.D.Disk
    c.args.plan.now c.args.actor c.args.choice c.args.self.now c.requires.known
    c.reopen.new.self c.in_ok-reopen.ensures.history c.in_ok-check_place.ensures.ok c.in_ok-reopen.field-0 c.in_ok-reopen.ensures.ok
    c.in-Up.kept c.in-Up.is standing.0 standing.1 in
    record { back = (standing.0, back.0, back.1) })
    (λ tests.
    let t = c.requires.tested tests in
    record { back = (t.entered, (kept_back g.D.Disk c.args.plan.now c.args.self.now.history c.reopen.new.self.history c.args.actor c.in-Up.kept t.entered c.in_ok-reopen.ensures.history t.past (c.in_ok-check_place.ensures.ok t.entered t.past.stands) (c.in_ok-check_kept-in-Up.ensures tests)), kept_sends g.D.Disk c.args.plan.now t.entered c.reopen.new.self.history c.args.actor c.in-Up.kept (c.in_ok-check_kept-in-Up.ensures tests)) })

pub returns-in-Down-clause-ok : goal.returns-in-Down-clause-ok
returns-in-Down-clause-ok g c =
    down_enters g.D.Disk
    c.args.plan.now c.args.actor c.args.choice c.args.self.now c.requires.known
    c.reopen.new.self c.in_ok-reopen.ensures.history c.in_ok-check_place.ensures.ok c.in_ok-reopen.field-0 c.in_ok-reopen.ensures.ok
    c.in-Down.is c.enter_down.result c.enter_down.new.history c.enter_down.ensures.ok

pub returns-in_ok-check_kept-in-Up-clause-ok : goal.returns-in_ok-check_kept-in-Up-clause-ok
returns-in_ok-check_kept-in-Up-clause-ok g c =
    up_enters g.D.Disk
    c.args.plan.now c.args.actor c.args.choice c.args.self.now c.requires.known
    c.reopen.new.self c.in_ok-reopen.ensures.history c.in_ok-check_place.ensures.ok c.in_ok-reopen.field-0 c.in_ok-reopen.ensures.ok
    c.in-Up.kept c.in-Up.is c.come_up.result c.come_up.new.history c.come_up.ensures.ok

pub returns-in_ok-check_kept-in-Up-clause-limit : goal.returns-in_ok-check_kept-in-Up-clause-limit
returns-in_ok-check_kept-in-Up-clause-limit g c =
    up_ends g.D.Disk
    c.args.plan.now c.args.actor c.args.choice c.args.self.now c.requires.known
    c.reopen.new.self c.in_ok-reopen.ensures.history c.in_ok-check_place.ensures.ok c.in_ok-reopen.field-0 c.in_ok-reopen.ensures.ok
    c.in-Up.kept c.in-Up.is c.come_up.result c.come_up.new.history c.come_up.ensures.limit

pub returns-in-Down-clause-tested : goal.returns-in-Down-clause-tested
returns-in-Down-clause-tested g c = λ tests.
    let t = c.requires.tested tests in
    on_ok _ _ c.enter_down.result
    (λ enter.
    reopened_tested g.D.Disk c.args.plan.now c.args.self.now _ t (c.in_ok-reopen.ensures.safe (most_in t.entered) (at_least t.entered) t.safe)
    (grown_by c.enter_down.new.history t.entered (Down c.args.actor)
    (enter t.entered (subst (λ (h : History). IsPastOf h t.entered) (sym c.in_ok-reopen.ensures.history) t.past) (c.in_ok-check_place.ensures.ok t.entered t.past.stands))))
    c.enter_down.ensures.ok

pub returns-in_ok-check_kept-in-Up-clause-tested : goal.returns-in_ok-check_kept-in-Up-clause-tested
returns-in_ok-check_kept-in-Up-clause-tested g c = λ tests.
    let t = c.requires.tested tests in
    on_ok _ _ c.come_up.result
    (λ grow.
    reopened_tested g.D.Disk c.args.plan.now c.args.self.now _ t (c.in_ok-reopen.ensures.safe (most_in t.entered) (at_least t.entered) t.safe)
    (grow (cluster_of c.args.plan.now) t.entered (kept_back g.D.Disk c.args.plan.now c.args.self.now.history c.reopen.new.self.history c.args.actor c.in-Up.kept t.entered c.in_ok-reopen.ensures.history t.past (c.in_ok-check_place.ensures.ok t.entered t.past.stands) (c.in_ok-check_kept-in-Up.ensures tests))))
    c.come_up.ensures.grown
