-- The law of strict runs fixes the items and the situations in the moments.
use Rattle.acc_glance.proofs.OneSight.{one_run, one_sight}
use Rattle.acc_glance.proofs.laws.one_sight_over_strict_disks.Goals as goal

pub returns-clause-items : goal.returns-clause-items
returns-clause-items c = one_run c.one_strict_run.ensures.last

pub returns-clause-seens : goal.returns-clause-seens
returns-clause-seens c = one_sight c.one_strict_run.ensures.last
