use Rattle.std.proofs.Common.{arith}
use Rattle.acc_schedule.specs.View.{content}
use Rattle.acc_cluster.proofs.Homes.{home_low, home_is}
use Rattle.acc_cluster.proofs.stepping.home_of.Goals as goal

pub overflow_mul-result : goal.overflow_mul-result
overflow_mul-result c =
    let low = home_low c.args.plan.now (content c.plan.inside) c.as_slice.result.now c.args.txn c.plan.view_is c.as_slice.ensures c.plan.invariant c.requires in
    omega (arith, low)

pub returns : goal.returns
returns c = home_is c.args.plan.now (content c.plan.inside) c.as_slice.result.now c.args.txn c.plan.view_is c.as_slice.ensures c.plan.invariant c.requires
