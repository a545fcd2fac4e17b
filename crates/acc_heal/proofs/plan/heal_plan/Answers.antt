-- The items and the disks are those of the healing's end, and a limit is one of the run or of its healing.
use Rattle.std.proofs.Common.{◌++◌, map, ◌∙◌, ap}
use Rattle.acc_message.specs.declared.error.RunError.TheVariants.{OutOfMemory}
use Rattle.acc_run.specs.Given.{numbered}
use Rattle.acc_run.proofs.Whole.{limit_told}
use Rattle.acc_heal.proofs.Whole.{ran_healing, ended_within, healed_strictly, run_limit, run_limit_strictly}
use Rattle.acc_heal.proofs.plan.heal_plan.Goals as goal

pub heal-requires-clause-taken : goal.heal-requires-clause-taken
heal-requires-clause-taken g c = c.in_ok-take_all.ensures.ok

pub returns-clause-ran : goal.returns-clause-ran
returns-clause-ran g c =
    ran_healing g.M.D.Disk c.args.plan.now c.heal.new.cluster c.in_ok-ended.ended c.in_ok-ended.ensures.ok c.in_ok-take_all.ensures.ok.last
    (g.M.DiskMaker.given c.args.disks.now) (g.M.DiskMaker.given c.give_back.new.disks) (c.in_ok-heal.ensures.ok c.in_ok-take_all.ensures.ok)
    (c.in_ok-give_back.ensures.given ∙ ap (λ before. before ++ map numbered c.in_ok-ended.ended.disks.items) c.opened.ensures.given)

pub returns-clause-within : goal.returns-clause-within
returns-clause-within g c =
    ended_within g.M.D.Disk c.args.plan.now c.heal.new.cluster c.in_ok-ended.ended c.in_ok-ended.ensures.ok c.in_ok-take_all.ensures.ok.last
    (c.in_ok-heal.ensures.ok c.in_ok-take_all.ensures.ok)

pub returns-clause-strict : goal.returns-clause-strict
returns-clause-strict g c = λ strict.
    let taken = c.in_ok-take_all.ensures.strict (c.in_ok-cluster.ensures.strict strict) in
    healed_strictly g.M.D.Disk c.args.plan.now c.heal.new.cluster c.in_ok-ended.ended c.in_ok-ended.ensures.ok c.take_all.new.cluster taken (c.in_ok-heal.ensures.strict taken)

pub returns-in_err-take_all-clause-limit : goal.returns-in_err-take_all-clause-limit
returns-in_err-take_all-clause-limit g c =
    limit_told _ c.in_err-take_all.field-0.0 c.from_residual-in_err-take_all.result c.from_residual-in_err-take_all.ensures.1
    (run_limit g.M.D.Disk c.args.plan.now c.take_all.new.cluster c.in_err-take_all.field-0.0 c.in_err-take_all.ensures.limit)

pub returns-in_err-take_all-clause-strict_limit : goal.returns-in_err-take_all-clause-strict_limit
returns-in_err-take_all-clause-strict_limit g c = λ strict.
    limit_told _ c.in_err-take_all.field-0.0 c.from_residual-in_err-take_all.result c.from_residual-in_err-take_all.ensures.1
    (run_limit_strictly g.M.D.Disk c.args.plan.now c.take_all.new.cluster c.in_err-take_all.field-0.0
    (c.in_err-take_all.ensures.strict_limit (c.in_ok-cluster.ensures.strict strict)))

pub returns-in_err-heal-clause-limit : goal.returns-in_err-heal-clause-limit
returns-in_err-heal-clause-limit g c =
    limit_told _ c.in_err-heal.field-0.0 c.from_residual-in_err-heal.result c.from_residual-in_err-heal.ensures.1 c.in_err-heal.ensures.limit

pub returns-in_err-heal-clause-strict_limit : goal.returns-in_err-heal-clause-strict_limit
returns-in_err-heal-clause-strict_limit g c = λ strict.
    limit_told _ c.in_err-heal.field-0.0 c.from_residual-in_err-heal.result c.from_residual-in_err-heal.ensures.1
    (c.in_err-heal.ensures.strict_limit (c.in_ok-take_all.ensures.strict (c.in_ok-cluster.ensures.strict strict)))

-- disks that can't be given back for want of memory tell of no limit
pub returns-in_err-give_back-clause-limit : goal.returns-in_err-give_back-clause-limit
returns-in_err-give_back-clause-limit g c =
    limit_told _ OutOfMemory c.from_residual-in_err-give_back.result c.from_residual-in_err-give_back.ensures.1 tt

pub returns-in_err-give_back-clause-strict_limit : goal.returns-in_err-give_back-clause-strict_limit
returns-in_err-give_back-clause-strict_limit g c = λ strict.
    limit_told _ OutOfMemory c.from_residual-in_err-give_back.result c.from_residual-in_err-give_back.ensures.1 tt
