-- The items and the disks are those of the schedule's end, or of where a limit stopped it.
use Rattle.std.proofs.Common.{◌++◌, map, ◌∙◌, ap}
use Rattle.acc_message.specs.declared.error.RunError.TheVariants.{OutOfMemory}
use Rattle.acc_run.specs.Given.{numbered}
use Rattle.acc_run.proofs.Whole.{limit_stopped, limit_told}
use Rattle.acc_glance.proofs.Looked.{looked_within, ran_with_looks, seen_strictly}
use Rattle.acc_glance.proofs.plan.glance_plan.Goals as goal

pub returns-clause-ran : goal.returns-clause-ran
returns-clause-ran g c =
    ran_with_looks g.M.D.Disk c.args.plan.now c.glance-taken.new.cluster c.args.looks.now c.in_ok-seens.seens c.in_ok-ended.ended
    (g.M.DiskMaker.given c.args.disks.now) (g.M.DiskMaker.given c.give_back.new.disks) c.in_ok-seens.ensures.ok c.in_ok-ended.ensures.ok
    (c.in_ok-give_back.ensures.given ∙ ap (λ before. before ++ map numbered c.in_ok-ended.ended.disks.items) c.opened.ensures.given)

pub returns-clause-strict : goal.returns-clause-strict
returns-clause-strict g c = λ strict.
    seen_strictly g.M.D.Disk c.args.plan.now c.glance-taken.new.cluster c.args.looks.now c.in_ok-seens.seens c.in_ok-ended.ended
    (c.in_ok-seens.ensures.strict (c.in_ok-cluster.ensures.strict strict)) c.in_ok-ended.ensures.ok

pub returns-clause-within : goal.returns-clause-within
returns-clause-within g c =
    looked_within g.M.D.Disk c.args.plan.now c.glance-taken.new.cluster c.args.looks.now c.in_ok-seens.seens c.in_ok-ended.ended c.in_ok-seens.ensures.ok c.in_ok-ended.ensures.ok

pub returns-in_err-seens-clause-limit : goal.returns-in_err-seens-clause-limit
returns-in_err-seens-clause-limit g c =
    limit_stopped g.M.D.Disk c.args.plan.now c.glance-taken.new.cluster c.in_ok-ended.ended
    (g.M.DiskMaker.given c.args.disks.now) (g.M.DiskMaker.given c.give_back.new.disks) (g.M.DiskMaker.strict c.args.disks.now)
    c.in_err-seens.field-0.0 c.from_residual-in_err-seens.result c.from_residual-in_err-seens.ensures.1 c.in_err-seens.ensures.limit
    (λ strict. c.in_err-seens.ensures.strict_limit (c.in_ok-cluster.ensures.strict strict)) c.in_ok-ended.ensures.limited
    (c.in_ok-give_back.ensures.given ∙ ap (λ before. before ++ map numbered c.in_ok-ended.ended.disks.items) c.opened.ensures.given)

-- disks that can't be given back for want of memory tell of no limit
pub returns-in_err-give_back-clause-limit : goal.returns-in_err-give_back-clause-limit
returns-in_err-give_back-clause-limit g c =
    limit_told _ OutOfMemory c.from_residual-in_err-give_back.result c.from_residual-in_err-give_back.ensures.1 tt
