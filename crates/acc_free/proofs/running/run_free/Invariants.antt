-- The tape is that of the plan.
use Rattle.acc_free.proofs.running.run_free.Given as goal

abbrev pub ghosts-run_on : goal.ghosts-run_on
ghosts-run_on g a = record { plan = a.plan.now; strict = g.M.DiskMaker.strict a.disks.now }
